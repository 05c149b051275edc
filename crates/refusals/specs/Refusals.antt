-- What each cause of a refusal and each layer stands for. Assumes nothing.
--   number_of c   the fixed number of the cause c, 1 to 17
--   layer_of c    the layer whose rule c breaks
--   name_of l     the layer's name, as text
use Rattle.std.specs.Prelude.{ℕ, List, codes}
use Rattle.refusals.specs.declared.cause.Cause.{Cause}
use Rattle.refusals.specs.declared.cause.Cause.TheVariants.{NoSuchMode, NoSuchField, ValueTooLarge, WrongNumber, OffTrack, BothSigns, NoSuchIndex, NotHouseIndex, WrongLength, TooManyFrames, CarrierFull, NoSuchFrame, ModesAstray, CellMissing, BadCell, BadFill, BufferTooShort}
use Rattle.refusals.specs.declared.cause.Layer.{Layer}
use Rattle.refusals.specs.declared.cause.Layer.TheVariants.{Carrier, Index, Frame, Message}

abbrev pub number_of : Cause → ℕ
number_of NoSuchMode = 1
number_of NoSuchField = 2
number_of ValueTooLarge = 3
number_of WrongNumber = 4
number_of OffTrack = 5
number_of BothSigns = 6
number_of NoSuchIndex = 7
number_of NotHouseIndex = 8
number_of WrongLength = 9
number_of TooManyFrames = 10
number_of CarrierFull = 11
number_of NoSuchFrame = 12
number_of ModesAstray = 13
number_of CellMissing = 14
number_of BadCell = 15
number_of BadFill = 16
number_of BufferTooShort = 17

abbrev pub layer_of : Cause → Layer
layer_of NoSuchMode = Frame
layer_of NoSuchField = Frame
layer_of ValueTooLarge = Frame
layer_of WrongNumber = Index
layer_of OffTrack = Index
layer_of BothSigns = Index
layer_of NoSuchIndex = Index
layer_of NotHouseIndex = Index
layer_of WrongLength = Message
layer_of TooManyFrames = Message
layer_of CarrierFull = Carrier
layer_of NoSuchFrame = Message
layer_of ModesAstray = Message
layer_of CellMissing = Carrier
layer_of BadCell = Carrier
layer_of BadFill = Message
layer_of BufferTooShort = Message

abbrev pub name_of : Layer → List ℕ
name_of Carrier = codes "carrier"
name_of Index = codes "index"
name_of Frame = codes "frame"
name_of Message = codes "message"
