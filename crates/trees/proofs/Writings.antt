-- What is written.
use Rattle.trees.proofs.Common.{◌≡◌, ℕ, true, false, inl, inr, Option, Some, None, List, Result, Ok, Err, sym, subst, append-nil, [], IsErr, IfErr, true≢false, Appends, Sources, Form}
use Rattle.std.proofs.KnownBytes.{Appends-nil}
use Rattle.ptree.specs.declared.value.document.DocFormat.TheVariants.{Toml, Json}
use Rattle.ptree.specs.Tree.{Tree}
use Rattle.trees.specs.declared.command.Diff.{Diff}
use Rattle.trees.specs.declared.command.Drawing.{Drawing}
use Rattle.trees.specs.declared.command.Tree.{Tree as Given}
use Rattle.trees.specs.declared.command.Tree.TheVariants as given
use Rattle.trees.specs.declared.failure.Failure.{Failure}
use Rattle.trees.specs.declared.failure.Failure.TheVariants.{Said, Memory}
use Rattle.trees.specs.declared.source.Source.{Source}
use Rattle.trees.specs.Asked.{drawing_value, reading_value}
use Rattle.trees.specs.Documents.{IsPartTree}
use Rattle.trees.specs.Listing.{IsWrongList}
use Rattle.trees.specs.Merging.{IsComparison}
use Rattle.trees.specs.Named.{IsReadableValue}
use Rattle.trees.specs.Outlining.{outline_lines, IsFormOf, IsRightForm, HoldsOutline}
use Rattle.trees.specs.Reading.{HoldsDrawing, IsInput}
use Rattle.trees.specs.Telling.{TellsWhether}
use Rattle.trees.specs.Writing.{AppendsSome, Writes, WritesOr, WritesSaid, WritesRefusal, IsTreeDrawing, IsDrawingOf, IsComparisonOf, FailsToCompare, Compares, FailsToGive}
use Rattle.trees.proofs.Readings.{fails_by_memory}

-- what is written is also what follows of it
pub writes_weaker : {A : Type 0} (old new : Option (List ℕ)) (r : Result A Failure) (Is Js : List ℕ → Type 0) (Fails Gives : Failure → Type 0)
    → ((bytes : List ℕ) → Is bytes → Js bytes) → ((e : Failure) → Fails e → Gives e) → Writes old new r Is Fails → Writes old new r Js Gives
writes_weaker old new (Ok x) Is Js Fails Gives more why h = (h.0, more h.0 h.1, h.2)
writes_weaker old new (Err e) Is Js Fails Gives more why h =
    elim h [ inl none ↦ inl (why e none.0, none.1) | inr part ↦ inr (part.0, part.1, more part.1 part.2, part.3) ]

-- the drawing of a tree is that of one of which Is holds, and out of memory says nothing
pub drawing_made : {A : Type 0} (sources : Sources) (drawing : Drawing) (Is : Tree → Type 0) (Fails : Failure → Type 0) (old new : Option (List ℕ)) (r : Result A Failure) (t : Tree) → Is t → ((e : Failure) → e ≡ Memory → Fails e)
    → Writes old new r (IsTreeDrawing (drawing_value sources drawing) drawing.screen.is_terminal t) (λ e. e ≡ Memory) → Writes old new r (IsDrawingOf sources drawing Is) Fails
drawing_made sources drawing Is Fails old new r t made fails drawn =
    writes_weaker old new r (IsTreeDrawing (drawing_value sources drawing) drawing.screen.is_terminal t) (IsDrawingOf sources drawing Is) (λ e. e ≡ Memory) Fails (λ bytes is. (t, made, is)) fails drawn

-- a call that fails before it writes has appended nothing
pub nothing_written : {A : Type 0} (old : Option (List ℕ)) (r : Result A Failure) (Is : List ℕ → Type 0) (Fails : Failure → Type 0) → IsErr r → IfErr r Fails → Writes old old r Is Fails
nothing_written old (Ok x) Is Fails err says = absurd (true≢false (sym err))
nothing_written None (Err e) Is Fails err says = inl (says, tt)
nothing_written (Some bytes) (Err e) Is Fails err says = inl (says, sym (append-nil bytes))

-- out of memory says nothing of an input
pub gives_memory : (source : Source) (tree : Given) (e : Failure) → e ≡ Memory → FailsToGive source tree e
gives_memory source (given.Json document) e is = (fails_by_memory ((t : Tree) → IsPartTree Json source document t → ⊥) ⊥ e is, λ input. absurd (subst (λ (f : Failure). IsInput f) is input))
gives_memory source (given.Toml document) e is = (fails_by_memory ((t : Tree) → IsPartTree Toml source document t → ⊥) ⊥ e is, λ input. absurd (subst (λ (f : Failure). IsInput f) is input))
gives_memory source (given.Paths paths) e is = fails_by_memory (IsWrongList source paths) ⊥ e is
gives_memory source (given.Outline outline) e is =
    fails_by_memory ((t : Tree) → HoldsOutline source outline t → ⊥) ((form : Form) → IsFormOf outline (outline_lines source) form → IsRightForm form → ⊥) e is

-- what a call that may refuse has written is also what follows of it
pub or_weaker : {A : Type 0} (Done Other : Type 0) (old new : Option (List ℕ)) (r : Result A Failure) (Is Js : List ℕ → Type 0) (Fails Gives : Failure → Type 0)
    → (Done → Other) → ((bytes : List ℕ) → Is bytes → Js bytes) → ((e : Failure) → Fails e → Gives e) → WritesOr Done old new r Is Fails → WritesOr Other old new r Js Gives
or_weaker Done Other old new (Ok x) Is Js Fails Gives done more why h = done h
or_weaker Done Other old new (Err Said) Is Js Fails Gives done more why h = (h.0, more h.0 h.1, h.2)
or_weaker {A} Done Other old new r Is Js Fails Gives done more why h = writes_weaker {A = A} old new r Is Js Fails Gives more why h

-- the same where success has written what a refusal has
pub said_weaker : {A : Type 0} (old new : Option (List ℕ)) (r : Result A Failure) (Is Js : List ℕ → Type 0) (Fails Gives : Failure → Type 0)
    → ((bytes : List ℕ) → Is bytes → Js bytes) → ((e : Failure) → Fails e → Gives e) → WritesSaid old new r Is Fails → WritesSaid old new r Js Gives
said_weaker old new r Is Js Fails Gives more why = or_weaker (AppendsSome old new Is) (AppendsSome old new Js) old new r Is Js Fails Gives (λ done. (done.0, more done.0 done.1, done.2)) more why

-- a call that never succeeds may say anything of success
pub or_never : {A : Type 0} (Done Other : Type 0) (old new : Option (List ℕ)) (r : Result A Failure) (Is : List ℕ → Type 0) (Fails : Failure → Type 0)
    → TellsWhether r (true ≡ false) → WritesOr Done old new r Is Fails → WritesOr Other old new r Is Fails
or_never Done Other old new (Ok x) Is Fails tells h = absurd (true≢false tells)
or_never Done Other old new _ Is Fails tells h = h

-- a call that fails before it writes has appended nothing
pub fails_early : {A : Type 0} (Done : Type 0) (old : Option (List ℕ)) (r : Result A Failure) (Is : List ℕ → Type 0) (Fails : Failure → Type 0) → (Fails Said → ⊥) → IsErr r → IfErr r Fails → WritesOr Done old old r Is Fails
fails_early Done old (Ok x) Is Fails none err says = absurd (true≢false (sym err))
fails_early Done old (Err Said) Is Fails none err says = absurd (none says)
fails_early Done old _ Is Fails none err says = inl (says, Appends-nil old)

-- what is written of two trees is written of the sources with their drawings
pub compares : {A : Type 0} (sources : Sources) (left right : Source) (diff : Diff) (t u : Tree) (old new : Option (List ℕ)) (r : Result A Failure) → HoldsDrawing (reading_value sources diff.drawing.pieces) left t → HoldsDrawing (reading_value sources diff.drawing.pieces) right u
    → WritesRefusal old new r (IsComparison diff.shows_all (drawing_value sources diff.drawing) diff.drawing.screen.is_terminal t u) (λ e. e ≡ Memory) → Compares sources left right diff old new r
compares sources left right diff t u old new r a b written =
    let config = reading_value sources diff.drawing.pieces in
    or_weaker (Appends old new []) (Appends old new []) old new r (IsComparison diff.shows_all (drawing_value sources diff.drawing) diff.drawing.screen.is_terminal t u) (IsComparisonOf sources left right diff) (λ e. e ≡ Memory) (FailsToCompare sources left right diff)
    (λ done. done) (λ bytes h. (t, u, a, b, h)) (λ e h. inl (fails_by_memory ((x : Tree) → HoldsDrawing config left x → ⊥) (IsReadableValue config → ⊥) e h)) written
