-- Levels that increase by at most one.
use Rattle.std.proofs.Common.{◌≡◌, ℕ, suc, ◌<◌, ◌≤◌, List, [], ◌∷◌, ◌++◌, refl}
use Rattle.ptree.specs.Outline.{Line, Steps, last_level}

-- one line more, at most one level below the last of those before it
pub Steps-push : (n : ℕ) (o : List Line) (l : Line) → Steps n o → 0 < l.level → l.level ≤ suc (last_level n o) → Steps n (o ++ l ∷ [])
Steps-push n [] l s low high = (low, high, tt)
Steps-push n (x ∷ o) l s low high = (s.0, s.1, Steps-push x.level o l s.2 low high)

-- the last level is that of the line added last
pub last_level-push : (n : ℕ) (o : List Line) (l : Line) → last_level n (o ++ l ∷ []) ≡ l.level
last_level-push n [] l = refl
last_level-push n (x ∷ o) l = last_level-push x.level o l
