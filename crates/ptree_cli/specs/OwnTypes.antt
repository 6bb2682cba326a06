-- What the program's own types mean.
use Rattle.std.specs.Prelude.{map, string_bytes, Result, Ok, Err}
use Rattle.ptree.specs.declared.sink.DrawError.{DrawError}
use Rattle.ptree.specs.declared.sink.DrawError.TheVariants.{Write, Zero, Memory}
use Rattle.ptree.specs.declared.value.document.DocError.{DocError}
use Rattle.ptree.specs.declared.value.document.DocError.TheVariants.{Draw}
use Rattle.ptree_cli.specs.declared.ending.Ending.{Ending}
use Rattle.ptree_cli.specs.declared.ending.Ending.TheVariants.{Done, BadDocument, CannotWrite, NoMemory}
use Rattle.ptree_cli.specs.declared.command.Command.{Command}
use Rattle.ptree_cli.specs.declared.command.Command.TheVariants.{Words, Document, Redraw}
use Rattle.ptree_cli.specs.declared.command.Request.{Request}
use Rattle.ptree_cli.specs.Command as asked

-- the meaning of a command
abbrev pub command_of : Command → asked.Command
command_of (Words root children) = asked.words root.now (map string_bytes children.now)
command_of (Document format label) = asked.document format label.now
command_of Redraw = asked.redraw

-- the meaning of a request
abbrev pub request_of : Request → asked.Request
request_of r = record { terminal = r.terminal; command = command_of r.command }

-- how a call ends after a drawing
abbrev pub drawing_ending : {A : Type 0} → Result A DrawError → Ending
drawing_ending (Ok x) = Done
drawing_ending (Err Memory) = NoMemory
drawing_ending (Err (Write e)) = CannotWrite
drawing_ending (Err Zero) = CannotWrite

-- how a call ends after the drawing of a document
abbrev pub document_ending : {A : Type 0} → Result A DocError → Ending
document_ending (Ok x) = Done
document_ending (Err (Draw e)) = drawing_ending {A = Unit {0}} (Err e)
document_ending (Err e) = BadDocument
