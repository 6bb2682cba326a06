-- Sources that are not read as lines of two words.
use Rattle.std.proofs.Common.{◌≡◌, ◌∙◌, true, sym, codes, true≢false}
use Rattle.trees.specs.declared.source.Source.{Source}
use Rattle.trees.specs.Depending.{begins_as, is_lock, IsOwn}
use Rattle.trees.specs.Meaning.{HoldsNoPairs}

-- a list of another program
pub never_other : (source : Source) → (IsOwn source → ⊥) → HoldsNoPairs source
never_other source other = λ file pairs held. absurd (other file.own)

-- a lock file
pub never_lock : (source : Source) → is_lock source ≡ true → HoldsNoPairs source
never_lock source lock = λ file pairs held. absurd (true≢false (sym lock ∙ file.lock))

-- a list of JSON
pub never_list : (source : Source) → begins_as (codes "[") source ≡ true → HoldsNoPairs source
never_list source list = λ file pairs held. absurd (true≢false (sym list ∙ file.list))
