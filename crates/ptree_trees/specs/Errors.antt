-- How errors are converted to those of std.
use Rattle.std.specs.declared.io.ErrorKind.{ErrorKind}
use Rattle.std.specs.declared.io.ErrorKind.TheVariants.{OutOfMemory, InvalidInput, InvalidData, UnexpectedEof}
use Rattle.ptree.specs.Errors.{read_kind}
use Rattle.ptree_trees.specs.declared.difference.DrawingsError.{DrawingsError}
use Rattle.ptree_trees.specs.declared.difference.DrawingsError.TheVariants as drawings
use Rattle.ptree_trees.specs.declared.indented.IndentError.{IndentError}
use Rattle.ptree_trees.specs.declared.indented.IndentError.TheVariants as indent
use Rattle.ptree_trees.specs.declared.indented.WriteError.{WriteError}
use Rattle.ptree_trees.specs.declared.indented.WriteError.TheVariants as write

-- the kind of the error of a text that has no indented form
abbrev pub indent_kind : IndentError → ErrorKind
indent_kind (indent.Line n) = InvalidData
indent_kind indent.End = UnexpectedEof
indent_kind indent.Memory = OutOfMemory

-- the kind of the error of a tree without an indented form
abbrev pub write_kind : WriteError → ErrorKind
write_kind write.Text = InvalidInput
write_kind write.Memory = OutOfMemory

-- the kind of the error of a text that is no drawing
abbrev pub drawings_kind : DrawingsError → ErrorKind
drawings_kind (drawings.Left e) = read_kind e
drawings_kind (drawings.Right e) = read_kind e
