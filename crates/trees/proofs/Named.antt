-- With which pieces a text is read, and what is said of them.
use Rattle.trees.proofs.Common.{◌≡◌, ◌≢◌, ℕ, ◌-◌, ◌≤◌, inl, inr, Bool, true, false, Option, Some, None, Result, Ok, IfOk, All, List, [], ◌∷◌, ◌++◌, length, slice_index_or, take, Contains, codes, refl, sym, ap, ◌∙◌, subst, append_assoc, lit<, ltb, encode_utf8, MatchOption, IsCharBoundary, ltb-true, true≢false, All-contains, encode_ascii, FindsCharSuffix, ConfigValue}
use Rattle.std.proofs.lemmas.Str.Pattern.{ends_char}
use Rattle.ptree.specs.declared.presets.Preset.TheVariants.{Tree, TreeAscii, CargoTree, CargoTreeAscii, Findmnt, FindmntAscii, Sqlite, Maven, Clang, Ps}
use Rattle.trees.specs.declared.pieces.Pieces.{Pieces}
use Rattle.trees.specs.declared.pieces.Pieces.TheVariants.{Utf, UtfBold, UtfDashed, UtfDouble, Ascii, AsciiPlus, Program}
use Rattle.trees.specs.Expected.{AreWholeLines, ListsBeginnings, IsHint}
use Rattle.trees.specs.Named.{piece_name, IsNamed, IsReadWith, IsReadWithNone, NamesOther, AddsOther}

-- ## All pieces

-- those that are tried
abbrev pub tried : List Pieces
tried = Utf ∷ UtfBold ∷ UtfDashed ∷ UtfDouble ∷ Ascii ∷ AsciiPlus ∷ Program Tree ∷ Program TreeAscii ∷ Program CargoTree ∷ Program CargoTreeAscii ∷ Program Findmnt ∷ Program FindmntAscii ∷ Program Sqlite ∷ Program Maven ∷ Program Clang ∷ Program Ps ∷ []

-- what is at a place of the list is in it
at : (p : Pieces) (place : ℕ) → ltb place 16 ≡ true → slice_index_or tried place p ≡ p → Contains tried p
at p place within found = (place, ltb-true place 16 within, found)

-- those are all
each_tried : (p : Pieces) → Contains tried p
each_tried Utf = at Utf 0 refl refl
each_tried UtfBold = at UtfBold 1 refl refl
each_tried UtfDashed = at UtfDashed 2 refl refl
each_tried UtfDouble = at UtfDouble 3 refl refl
each_tried Ascii = at Ascii 4 refl refl
each_tried AsciiPlus = at AsciiPlus 5 refl refl
each_tried (Program Tree) = at (Program Tree) 6 refl refl
each_tried (Program TreeAscii) = at (Program TreeAscii) 7 refl refl
each_tried (Program CargoTree) = at (Program CargoTree) 8 refl refl
each_tried (Program CargoTreeAscii) = at (Program CargoTreeAscii) 9 refl refl
each_tried (Program Findmnt) = at (Program Findmnt) 10 refl refl
each_tried (Program FindmntAscii) = at (Program FindmntAscii) 11 refl refl
each_tried (Program Sqlite) = at (Program Sqlite) 12 refl refl
each_tried (Program Maven) = at (Program Maven) 13 refl refl
each_tried (Program Clang) = at (Program Clang) 14 refl refl
each_tried (Program Ps) = at (Program Ps) 15 refl refl

-- what holds of those holds of each
each_of_tried : (P : Pieces → Type 0) → All P tried → (p : Pieces) → P p
each_of_tried P h p = All-contains P tried p h (each_tried p)

-- where none of those reads a text, none does
pub none_tried : {E : Type 0} (config : ConfigValue) (text : List ℕ) (r : Result (Option Pieces) E)
    → IfOk r (λ found. MatchOption found (All (λ p. IsReadWith config text p → ⊥) tried) (IsReadWith config text))
    → IfOk r (λ found. MatchOption found (IsReadWithNone config text) (IsReadWith config text))
none_tried config text (Ok None) h = each_of_tried (λ p. IsReadWith config text p → ⊥) h
none_tried config text _ h = h

-- where none of those has a name, none has
pub none_named : (name : List ℕ) (found : Option Pieces) → MatchOption found (All (λ p. name ≢ piece_name p) tried) (λ p. name ≡ piece_name p)
    → MatchOption found ((p : Pieces) → name ≢ piece_name p) (IsNamed name)
none_named name None h = each_of_tried (λ p. name ≢ piece_name p) h
none_named name (Some p) h = inl h

-- ## What is said

-- the name that is added
pub adds_name : (config : ConfigValue) (text : List ℕ) (p : Pieces) (old middle new name : List ℕ) → IsReadWith config text p → name ≡ piece_name p
    → middle ≡ old ++ codes "\nit is a drawing with --as " → new ≡ middle ++ name → AddsOther config text true old new
adds_name config text p old middle new name read is first second =
    let start : List ℕ = codes "\nit is a drawing with --as " in (
      start ++ piece_name p,
      (p, read, refl),
      second ∙ (ap (λ z. z ++ name) first ∙ (append_assoc old start name ∙ ap (λ z. old ++ (start ++ z)) is)),
    )

-- it is the hint, if nothing is before it
pub hint_named : (config : ConfigValue) (text lines old hint : List ℕ) (b : Bool) → old ≡ [] → b ≡ true → AddsOther config text b old hint → IsHint config text lines hint
hint_named config text lines old hint true none is (said, names, added) = inl (subst (NamesOther config text) (sym (added ∙ ap (λ z. z ++ said) none)) names)
hint_named config text lines old hint false none is added = absurd (true≢false (sym is))

-- without a name, the beginnings are
pub hint_listed : (config : ConfigValue) (text lines old middle hint listed : List ℕ) (b : Bool) → old ≡ [] → b ≡ false → AddsOther config text b old middle
    → ListsBeginnings config lines listed → hint ≡ middle ++ (codes "\nexpected one of:" ++ listed) → IsHint config text lines hint
hint_listed config text lines old middle hint listed true none is added lists said = absurd (true≢false is)
hint_listed config text lines old middle hint listed false none is (other, added) lists said =
    inr (other, inr (listed, said ∙ ap (λ z. z ++ (codes "\nexpected one of:" ++ listed)) (added ∙ none), lists))

-- and nothing if there are none
pub hint_nothing : (config : ConfigValue) (text lines old hint listed : List ℕ) (b : Bool) → old ≡ [] → b ≡ false → AddsOther config text b old hint
    → ListsBeginnings config lines listed → listed ≡ [] → IsHint config text lines hint
hint_nothing config text lines old hint listed true none is added lists empty = absurd (true≢false is)
hint_nothing config text lines old hint listed false none is (other, added) lists empty =
    inr (other, inl (added ∙ none, subst (ListsBeginnings config lines) empty lists))

-- a text that ends in a line feed has whole lines
pub ends_whole : (text : List ℕ) → ((n : ℕ) × FindsCharSuffix 10 text (Some n) × (n ≤ length text) × IsCharBoundary text (length text - n)) → AreWholeLines text
ends_whole text found = (take (length text - 1) text, (ends_char 10 text true found (lit< tt)).0 refl)

-- and one that doesn't has not
pub ends_within : (text : List ℕ) → ((front : List ℕ) → text ≢ front ++ encode_utf8 10) → AreWholeLines text → ⊥
ends_within text none (front, is) = none front (is ∙ ap (λ (z : List ℕ). front ++ z) (sym (encode_ascii 10 (lit< tt))))
