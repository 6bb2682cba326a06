-- Sources that are lists of other programs, and those that are none.
use Rattle.trees.proofs.Common.{◌≡◌, ◌∙◌, ℕ, ◌<◌, ◌||◌, Bool, true, false, List, [], ◌∷◌, ◌++◌, length, get_or, map, sym, ap, Bor, string_bytes, bytes_eq, true≢false, map-append, list_any, lines}
use Rattle.std.proofs.lemmas.List.Folds.{list_any-append, list_any_at}
use Rattle.trees.specs.declared.source.Source.{Source}
use Rattle.trees.specs.Depending.{source_text, other_names, is_other_line, IsOwn}
use Rattle.trees.specs.Documents.{IsLastPart}
use Rattle.trees.proofs.LastParts.{last_same}

module _ (source : Source) where
  -- a file with another name
  pub other_named : (label : List ℕ) → IsLastPart (string_bytes source.name) label → list_any (bytes_eq label) other_names ≡ true → IsOwn source → ⊥
  other_named label last other own = true≢false (sym other ∙ own.name label last)

  -- one with a line of another
  pub other_lined : (k : ℕ) (line : List ℕ) → k < length (lines (source_text source)) → line ≡ get_or (lines (source_text source)) k line → is_other_line line ≡ true → IsOwn source → ⊥
  other_lined k line low at other own = true≢false (sym (list_any_at is_other_line (lines (source_text source)) k line low (ap is_other_line (sym at) ∙ other)) ∙ own.lines)

  -- one with neither
  pub own_file : (label : List ℕ) → IsLastPart (string_bytes source.name) label → list_any (bytes_eq label) other_names ≡ false → list_any is_other_line (lines (source_text source)) ≡ false → IsOwn source
  own_file label last none own = record { name = λ part is. ap (λ l. list_any (bytes_eq l) other_names) (last_same (string_bytes source.name) part label is last) ∙ none; lines = own }

-- the lines so far, and one more
abbrev pub NoneOf : List (Bor (List ℕ)) → Type 0
NoneOf passed = list_any is_other_line (map (λ x. x.now) passed) ≡ false

pub none_more : (passed : List (Bor (List ℕ))) (line : Bor (List ℕ)) → NoneOf passed → is_other_line line.now ≡ false → NoneOf (passed ++ line ∷ [])
none_more passed line none own =
    let now = λ (x : Bor (List ℕ)). x.now in
    ap (list_any is_other_line) (map-append now passed (line ∷ []))
    ∙ (list_any-append is_other_line (map now passed) (line.now ∷ []) ∙ (ap (λ (b : Bool). b || list_any is_other_line (line.now ∷ [])) none ∙ ap (λ (b : Bool). b || false) own))
