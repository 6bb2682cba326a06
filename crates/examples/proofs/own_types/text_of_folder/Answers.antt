use Rattle.std.proofs.lemmas.Bool.{false≢true}
use Rattle.std.proofs.lemmas.Str.{IsUtf8-string_bytes}
use Rattle.std.specs.Prelude.{string_bytes}
use Rattle.ptree.specs.Drawing.{written_look}
use Rattle.ptree.proofs.Drawing.Utf8Texts.{texts_of_texts}
use Rattle.examples.specs.declared.own_types.Folder.{out-Folder}
use Rattle.examples.proofs.own_types.text_of_folder.Goals as goal

pub unreachable-requires : goal.unreachable-requires
unreachable-requires c =
    let texts = texts_of_texts (written_look c.args.config.now) (λ f. string_bytes (out-Folder f).name) (λ f. (out-Folder f).folders.items) (λ f. IsUtf8-string_bytes (out-Folder f).name) c.args.folder.now in
    false≢true (rw c.in-None.is at c.in_ok-text.ensures.utf8 texts)
