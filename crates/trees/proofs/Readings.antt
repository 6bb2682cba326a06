-- How a reading fails.
use Rattle.trees.proofs.Common.{◌≡◌, ℕ, List, Result, Ok, Err, string_bytes, subst, sym, IfErr, None, MatchOption, config_of, written_look}
use Rattle.ptree.specs.declared.print_config.PrintConfig.{PrintConfig}
use Rattle.ptree.specs.DrawnForm.{IsDrawnForm}
use Rattle.ptree.specs.Tree.{Tree}
use Rattle.trees.specs.declared.failure.Failure.{Failure}
use Rattle.trees.specs.declared.failure.Failure.TheVariants.{Usage, Input, Memory}
use Rattle.trees.specs.declared.source.Source.{Source}
use Rattle.trees.specs.Named.{IsReadableValue}
use Rattle.trees.specs.Reading.{HoldsDrawing, IsInput, IsUsage, IsInputOf, FailsFor, FailsToMake, FailsToRead}

-- an input error says what is known to be wrong
pub fails_by_input : (W P : Type 0) (f : Failure) → IsInput f → W → FailsFor W P f
fails_by_input W P (Input wrong) input is = is
fails_by_input W P _ input is = absurd input

-- a usage error says what is known of the words
pub fails_by_usage : (W P : Type 0) (f : Failure) → IsUsage f → P → FailsFor W P f
fails_by_usage W P (Usage wrong) usage is = is
fails_by_usage W P Memory usage is = tt
fails_by_usage W P _ usage is = absurd usage

-- what a failure says is also what follows of it
pub fails_weaker : (W V P : Type 0) (f : Failure) → (W → V) → FailsFor W P f → FailsFor V P f
fails_weaker W V P (Input wrong) more is = more is
fails_weaker W V P _ more is = is

-- where no words are wrong, that says nothing of them
pub fails_wider : (W P : Type 0) (f : Failure) → FailsFor W ⊥ f → FailsFor W P f
fails_wider W P (Usage wrong) is = absurd is
fails_wider W P _ is = is

-- out of memory says nothing
pub fails_by_memory : (W P : Type 0) (f : Failure) → f ≡ Memory → FailsFor W P f
fails_by_memory W P f is = subst (λ (e : Failure). FailsFor W P e) (sym is) tt

-- what fails to make one thing fails to make another that has one
pub fails_more : {X Y : Type 0} (P : Type 0) (Is : X → Type 0) (Js : Y → Type 0) (f : Failure) → ((y : Y) → Js y → (x : X) × Is x) → FailsToMake P Is f → FailsToMake P Js f
fails_more {X} {Y} P Is Js f has h = fails_weaker ((x : X) → Is x → ⊥) ((y : Y) → Js y → ⊥) P f (λ none y is. none (has y is).0 (has y is).1) h

-- an error says both of what it says twice
pub both_err : {A E : Type 0} (r : Result A E) (P Q : E → Type 0) → IfErr r P → IfErr r Q → IfErr r (λ e. P e × Q e)
both_err (Ok x) P Q p q = tt
both_err (Err e) P Q p q = (p, q)

-- an input error says that the source holds no drawing, if what was read of it is none
pub fails_by_text : (config : PrintConfig) (source : Source) (x : List ℕ) (f : Failure) → x ≡ string_bytes source.text → IsInput f
    → ((t : Tree) → IsDrawnForm (written_look config) config.depth x t → ⊥) → FailsToRead (config_of config) source f
fails_by_text config source x f same input none =
    let none_of : (y : List ℕ) → Type 0 = λ y. (t : Tree) → IsDrawnForm (written_look config) config.depth y t → ⊥ in
    fails_by_input ((t : Tree) → HoldsDrawing (config_of config) source t → ⊥) (IsReadableValue (config_of config) → ⊥) f input (λ t holds. subst none_of same none t holds.form)

-- of a source that could be read, the place is named
pub names_read : (source : Source) (e : Failure) (P : Type 0) → source.fault ≡ None → P → MatchOption source.fault P (λ fault. IsInputOf (string_bytes fault) e)
names_read source e P read is = subst (λ f. MatchOption f P (λ fault. IsInputOf (string_bytes fault) e)) (sym read) is
