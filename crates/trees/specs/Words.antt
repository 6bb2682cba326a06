-- The words of a call.
use Rattle.std.specs.Borrow.{Bor}
use Rattle.std.specs.Prelude.{◌≤◌, ℕ, List, codes, count_by}
use Rattle.std.specs.Str.{bytes_eq}

-- at most one of some paths is standard input
abbrev pub NamesInputOnce : List (Bor (List ℕ)) → Type 0
NamesInputOnce paths = count_by (λ path. bytes_eq path.now (codes "-")) paths ≤ 1
