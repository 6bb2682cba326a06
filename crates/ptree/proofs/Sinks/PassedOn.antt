-- What remains after bytes are passed on.
use Rattle.std.proofs.Common.{Result, Ok, Err, ◌≡◌, ℕ, ◌+◌, ◌-◌, ◌≤◌, List, [], ◌++◌, Option, Some, None, take, drop, length, sym, ◌∙◌, ap, subst, arith, length-drop}
use Rattle.std.proofs.KnownBytes.{Appends-trans}
use Rattle.std.proofs.Math.Seq.{take-add}
use Rattle.std.proofs.lemmas.List.{drop-take, take_rest}
use Rattle.std.proofs.lemmas.List.Edits.{take-paste}
use Rattle.std.proofs.lemmas.Grind.{elements}
use Rattle.std.specs.List.{copy_within}
use Rattle.std.specs.Io.KnownBytes.{Appends, Keeps, WriteAppends, append_known}
use Rattle.ptree.specs.Buffered.{Grows}
use Rattle.ptree.proofs.Sinks.Written.{appends_kept}

-- some of the rest are taken after the first of them
pub takes_more : (a b c : Option (List ℕ)) (bs : List ℕ) (k n : ℕ) → Appends a b (take k bs) → Appends b c (take n (take (length bs - k) (drop k bs))) → Appends a c (take (k + n) bs)
takes_more a b c bs k n h next =
    let rest : take n (take (length bs - k) (drop k bs)) ≡ take n (drop k bs) = ap (λ z. take n z) (take_rest bs k) in
    let joined : take k bs ++ take n (take (length bs - k) (drop k bs)) ≡ take (k + n) bs = ap (λ z. take k bs ++ z) rest ∙ sym (take-add k n bs) in
    subst (λ (z : List ℕ). Appends a c z) joined (Appends-trans a b c (take k bs) (take n (take (length bs - k) (drop k bs))) h next)

-- the length of the rest
pub length_cut : (bs : List ℕ) (k : ℕ) → length (take (length bs - k) (drop k bs)) ≡ length bs - k
length_cut bs k = ap length (take_rest bs k) ∙ length-drop k bs

-- bytes that are moved to the front
pub moved_front : (bs : List ℕ) (n used : ℕ) → n ≤ used → used ≤ length bs → take (used - n) (copy_within bs n used 0) ≡ drop n (take used bs)
moved_front bs n used below within =
    let left = used - n in
    let moved : take (0 + left) (copy_within bs n used 0) ≡ take left (drop n bs) = take-paste bs 0 (drop n bs) left (omega arith) (simp length-drop (omega arith)) in
    let start : left ≡ 0 + left = omega arith in
    let all : n + left ≡ used = omega arith in
    ap (λ z. take z (copy_within bs n used 0)) start ∙ moved ∙ sym (drop-take n left bs) ∙ ap (λ z. drop n (take z bs)) all

-- what is passed on and what is still held are the same bytes as before
pub keeps_given : (a b : Option (List ℕ)) (k : ℕ) (bs rest : List ℕ) → Appends a b (take k bs) → rest ≡ drop k bs → Keeps (append_known a bs) (append_known b rest)
keeps_given None b k bs rest h r = tt
keeps_given (Some xs) None k bs rest h r = h
keeps_given (Some xs) (Some ys) k bs rest h r = grind (arith, elements)

-- bytes were added twice
pub grows_then : (a b c : Option (List ℕ)) → Grows a b → Grows b c → Grows a c
grows_then a b c h k = (h.0 ++ k.0, Appends-trans a b c h.0 k.0 h.1 k.1)

-- a put adds bytes or none
pub grows_put : {E : Type 0} (a b : Option (List ℕ)) (result : Result ℕ E) (bytes : List ℕ) → WriteAppends a b result bytes → Grows a b
grows_put a b (Ok n) bytes h = (take n bytes, h)
grows_put a b (Err e) bytes h = ([], appends_kept a b h)
