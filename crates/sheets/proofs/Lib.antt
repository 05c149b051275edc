mod Texts
mod Printing
