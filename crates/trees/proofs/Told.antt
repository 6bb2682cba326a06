-- What the end of a call tells.
use Rattle.trees.proofs.Common.{◌≡◌, ◌<◌, ◌+◌, ◌∙◌, true, false, not, eqb, ℕ, List, [], ◌∷◌, All, take, length, get_or, Bool, Option, Some, None, Result, Ok, Err, ◌↔◌, IsTrue, string_bytes, subst, sym, ap, refl, is_some, slice_get, take-take, get_or-take, length-take-le, ne_eqb, true≢false, arith, ConfigValue, look_by, IsDrawing}
use Rattle.std.proofs.lemmas.List.Elements.{All-more, All-take, All-get_or}
use Rattle.ptree.specs.declared.print_config.OutputKind.TheVariants.{Unknown}
use Rattle.ptree.specs.Tree.{Tree, shape_of_tree}
use Rattle.ptree.proofs.Drawing.Laws.{drawn_form_again}
use Rattle.trees.specs.declared.failure.Failure.{Failure}
use Rattle.trees.specs.declared.failure.Failure.TheVariants.{Said}
use Rattle.trees.specs.declared.source.Source.{Source}
use Rattle.trees.specs.Telling.{TellsWhether}
use Rattle.trees.specs.Reading.{HoldsDrawing}

-- what tells whether a fact holds tells it of each that is the same
pub tells_same : {A : Type 0} (r : Result A Failure) (P Q : Type 0) → (P → Q) → (Q → P) → TellsWhether r P → TellsWhether r Q
tells_same (Ok x) P Q to from h = to h
tells_same (Err Said) P Q to from h = λ q. h (from q)
tells_same _ P Q to from h = h

-- what tells that a flag is not set tells what the flag does
pub tells_of_not : {A : Type 0} (r : Result A Failure) (b : Bool) (P : Type 0) → (IsTrue b ↔ P) → TellsWhether r (not b ≡ false) → TellsWhether r P
tells_of_not r true P same h = tells_same r (not true ≡ false) P (λ _. same.0 refl) (λ _. refl) h
tells_of_not r false P same h = tells_same r (not false ≡ false) P (λ e. absurd (true≢false e)) (λ p. absurd (true≢false (sym (same.1 p)))) h

-- texts with the same tree's drawing are the same
pub same_texts : (config : ConfigValue) (left right : Source) (t u : Tree) → HoldsDrawing config left t → HoldsDrawing config right u → t ≡ u → string_bytes left.text ≡ string_bytes right.text
same_texts config left right t u a b same =
    sym (drawn_form_again (look_by config Unknown false) config.depth (string_bytes left.text) (string_bytes right.text) t a.form (subst (λ (w : Tree). IsDrawing (look_by config Unknown false) (shape_of_tree w) config.depth (string_bytes right.text)) (sym same) b.form.drawn))

-- of the next element the fact holds
pub still_all : {X : Type 0} (P : X → Type 0) (xs : List X) (i : ℕ) (x : X) (b : Bool) → i < length xs → x ≡ get_or xs i x → P x
    → (IsTrue b ↔ All P (take i xs)) → IsTrue b ↔ All P (take (i + 1) xs)
still_all P xs i x b l is holds before = (
  (λ yes. All-more P xs i x l (before.0 yes) (subst P is holds)),
  (λ all. before.1 (subst (All P) (take-take i (i + 1) xs (omega arith)) (All-take P i (take (i + 1) xs) all))),
)

-- of the next element it does not
pub not_all : {X : Type 0} (P : X → Type 0) (xs : List X) (i : ℕ) (x : X) → i < length xs → x ≡ get_or xs i x → (P x → ⊥)
    → IsTrue false ↔ All P (take (i + 1) xs)
not_all P xs i x l is fails =
    let long : length (take (i + 1) xs) ≡ i + 1 = length-take-le (i + 1) xs (omega (arith, l)) in
    ((λ no. cc), (λ all. absurd (fails (subst P (get_or-take (i + 1) xs i x (omega arith) ∙ sym is) (All-get_or P (take (i + 1) xs) i x (omega (arith, long)) all)))))

-- ## Settings

-- a list has a first element exactly if it is not empty
pub some_first : {X : Type 0} (xs : List X) → not (eqb (length xs) 0) ≡ is_some (slice_get xs 0)
some_first [] = refl
some_first (x ∷ xs) = ap not (ne_eqb (length (x ∷ xs)) 0 (omega arith))

-- an option is empty or has a value
pub none_or_some : {X : Type 0} (o : Option X) → (is_some o ≡ false → o ≡ None) × (o ≡ None → is_some o ≡ false)
none_or_some None = ((λ _. refl), λ _. refl)
none_or_some (Some x) = ((λ e. absurd (true≢false e)), λ e. ap is_some e)
