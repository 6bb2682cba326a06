-- How errors are converted to those of std.
use Rattle.std.specs.Prelude.{◌≡◌}
use Rattle.std.specs.IoError.{error_kind}
use Rattle.std.specs.declared.io.Error.{Error}
use Rattle.std.specs.declared.io.ErrorKind.{ErrorKind}
use Rattle.std.specs.declared.io.ErrorKind.TheVariants.{WriteZero, OutOfMemory, InvalidInput, InvalidData, UnexpectedEof}
use Rattle.ptree.specs.declared.builder.AddError.{AddError}
use Rattle.ptree.specs.declared.builder.AddError.TheVariants as add
use Rattle.ptree.specs.declared.graph.EdgeError.{EdgeError}
use Rattle.ptree.specs.declared.graph.EdgeError.TheVariants as edge
use Rattle.ptree.specs.declared.output.writer.ItemError.{ItemError}
use Rattle.ptree.specs.declared.output.writer.ItemError.TheVariants as item
use Rattle.ptree.specs.declared.print_config.characters.CharsError.{CharsError}
use Rattle.ptree.specs.declared.print_config.characters.CharsError.TheVariants as chars
use Rattle.ptree.specs.declared.read.ReadError.{ReadError}
use Rattle.ptree.specs.declared.read.ReadError.TheVariants as read
use Rattle.ptree.specs.declared.sink.DrawError.{DrawError}
use Rattle.ptree.specs.declared.sink.DrawError.TheVariants.{Write, Zero, Memory}
use Rattle.ptree.specs.declared.value.convert.ConvertError.{ConvertError}
use Rattle.ptree.specs.declared.value.convert.ConvertError.TheVariants as convert
use Rattle.ptree.specs.declared.value.document.DocError.{DocError}
use Rattle.ptree.specs.declared.value.document.DocError.TheVariants as doc

-- a drawing's error as an error of std: the writer's own, or one of a kind
abbrev pub IsIoError : DrawError → Error → Type 0
IsIoError (Write e) told = told ≡ e
IsIoError Zero told = error_kind told ≡ WriteZero
IsIoError Memory told = error_kind told ≡ OutOfMemory

-- the kind of a builder's error
abbrev pub add_kind : AddError → ErrorKind
add_kind add.Level = InvalidInput
add_kind add.Memory = OutOfMemory

-- the error of a writer of items whose entry was not made
abbrev pub item_error : AddError → ItemError
item_error add.Level = item.Level
item_error add.Memory = item.Draw Memory

-- an error of a writer of items as an error of std: the drawing's, or one of a kind
abbrev pub IsItemIoError : ItemError → Error → Type 0
IsItemIoError item.Level told = error_kind told ≡ InvalidInput
IsItemIoError (item.Draw e) told = IsIoError e told

-- the kind of the error of refused edges
abbrev pub edge_kind : EdgeError → ErrorKind
edge_kind edge.NoNode = InvalidInput
edge_kind edge.Memory = OutOfMemory

-- the kind of the error of a name that gave no set
abbrev pub chars_kind : CharsError → ErrorKind
chars_kind chars.Unknown = InvalidInput
chars_kind chars.Memory = OutOfMemory

-- the kind of a reader's error
abbrev pub read_kind : ReadError → ErrorKind
read_kind (read.Line n) = InvalidData
read_kind read.End = UnexpectedEof
read_kind read.Memory = OutOfMemory

-- the kind of the error of a value that could not be converted
abbrev pub convert_kind : ConvertError → ErrorKind
convert_kind convert.Float = InvalidData
convert_kind convert.Date = InvalidData
convert_kind convert.Memory = OutOfMemory

-- a document's error as an error of std: the drawing's, or one of a kind
abbrev pub IsDocIoError : DocError → Error → Type 0
IsDocIoError doc.Syntax told = error_kind told ≡ InvalidData
IsDocIoError doc.Float told = error_kind told ≡ InvalidData
IsDocIoError doc.Date told = error_kind told ≡ InvalidData
IsDocIoError (doc.Draw e) told = IsIoError e told
