use Rattle.std.proofs.Common.{refl, sym, subst}
use Rattle.std.proofs.lemmas.Str.{IsUtf8-between, IsUtf8-had}
use Rattle.std.specs.Str.{IsUtf8}
use Rattle.ptree_c.proofs.texts.Texts.is_text.Goals as goal

-- a part of UTF-8 texts is UTF-8 if characters begin at both ends
pub returns-then-starts_character-2 : goal.returns-then-starts_character-2
returns-then-starts_character-2 c =
    let texts = c.args.self.now.bytes.now in
    let whole = IsUtf8-had texts (c.args.self.now.utf8 c.if-self.true) in
    let start = c.starts_character.ensures c.if-starts_character.true in
    let end = c.starts_character-then-starts_character.ensures c.if-starts_character-2.true in
    (λ _. subst IsUtf8 (sym c.requires.text) (IsUtf8-between texts c.args.start c.args.end whole c.requires.order start end), λ _. refl)
