-- Results put into room in parts.
use Rattle.std.proofs.Common.{◌≡◌, ℕ, zero, suc, ◌+◌, ◌-◌, ◌<◌, ◌≤◌, List, [], ◌∷◌, ◌++◌, length, length-take-le, take, take-take, take-append-drop, drop, refl, sym, ap, ◌∙◌, subst, append_assoc, arith}
use Rattle.std.proofs.Math.Seq.{take-append_seam, drop-append_seam}
use Rattle.std.proofs.lemmas.List.{append-nil, length-append, length-drop, length-take, take_all, drop-drop}
use Rattle.std.proofs.lemmas.Simd.{length-put_chunk, take_more_put_chunk}
use Rattle.std.specs.Simd.Lanes.{put_chunk}
use Rattle.ptree_c.specs.Rooms.{filled, IsFilled, PutsBytes}

-- a longer text, cut behind its first part
take_behind : (a b : List ℕ) (m n : ℕ) → m ≡ length a + n → take m (a ++ b) ≡ a ++ take n b
take_behind [] b m n e = ap (λ k. take k b) (let same : m ≡ n = omega (arith, e) in same)
take_behind (x ∷ a) b zero n e = absurd (omega (arith, e))
take_behind (x ∷ a) b (suc m) n e = ap (λ z. x ∷ z) (take_behind a b m n (omega (arith, e)))

-- the room stays as long as it was
length_filled : (room before : List ℕ) → length (filled room before) ≡ length room
length_filled room before = omega (arith, length-append (take (length room) before) (drop (length before) room), length-take (length room) before, length-drop (length before) room)

-- no bytes leave the room as it is
pub filled_none : (room : List ℕ) → room ≡ filled room []
filled_none [] = refl
filled_none (x ∷ room) = refl

-- bytes are put behind those that are there
pub filled_more : (room before bytes out : List ℕ) (at : ℕ) → IsFilled room before out at → at < length out → take at out ++ (filled (drop at out) bytes ++ []) ≡ filled room (before ++ bytes)
filled_more room before bytes out at is some =
    let rest : List ℕ = drop (length before) room in
    let within : length before < length room = omega (arith, some, is.1, ap length is.0, length_filled room before) in
    let parts : out ≡ before ++ rest = is.0 ∙ ap (λ z. z ++ rest) (take_all (length room) before (omega (arith, within))) in
    let first : take at out ≡ before = ap (λ n. take n out) is.1 ∙ (ap (take (length before)) parts ∙ take-append_seam before rest) in
    let left : drop at out ≡ rest = ap (λ n. drop n out) is.1 ∙ (ap (drop (length before)) parts ∙ drop-append_seam before rest) in
    let whole : length room ≡ length before + length rest = omega (arith, within, length-drop (length before) room) in
    let long : length before + length bytes ≡ length (before ++ bytes) = sym (length-append before bytes) in
    ap (λ z. z ++ (filled (drop at out) bytes ++ [])) first
    ∙ (ap (λ z. before ++ (filled z bytes ++ [])) left
    ∙ (ap (λ z. before ++ z) (append-nil (filled rest bytes))
    ∙ (sym (append_assoc before (take (length rest) bytes) (drop (length bytes) rest))
    ∙ (ap (λ z. z ++ drop (length bytes) rest) (sym (take_behind before bytes (length room) (length rest) whole))
    ∙ ap (λ z. take (length room) (before ++ bytes) ++ z) (drop-drop (length bytes) (length before) room ∙ ap (λ n. drop n room) long)))))

-- the first and the last bytes of a text, put over a text of its length, are the text
pub ends_put : (out text : List ℕ) (half : ℕ) → length out ≡ length text → half ≤ length text → length text ≤ half + half
    → put_chunk (length text - half) (put_chunk 0 out (take half text)) (take half (drop (length text - half) text)) ≡ text
ends_put out text half same low high =
    let last : ℕ = length text - half in
    let front : List ℕ = take half text in
    let back : List ℕ = take half (drop last text) in
    let begun : List ℕ = put_chunk 0 out front in
    let done : List ℕ = put_chunk last begun back in
    let long_front : length front ≡ half = length-take-le half text low in
    let long_back : length back ≡ half = length-take-le half (drop last text) (omega (arith, low, length-drop last text)) in
    let long_begun : length begun ≡ length text = length-put_chunk 0 out front ∙ same in
    let long_done : length done ≡ length text = length-put_chunk last begun back ∙ long_begun in
    let start : take half begun ≡ front = take_more_put_chunk 0 out front half (omega (arith, long_front)) (omega (arith, same, low)) in
    let whole : take (length text) done ≡ take last begun ++ back = take_more_put_chunk last begun back (length text) (omega (arith, low, long_back)) (omega (arith, long_begun)) in
    let first : take last begun ≡ take last text = sym (take-take last half begun (omega (arith, high))) ∙ (ap (take last) start ∙ take-take last half text (omega (arith, high))) in
    let rest : back ≡ drop last text = take_all half (drop last text) (omega (arith, high, length-drop last text)) in
    sym (take_all (length text) done (omega (arith, long_done)))
    ∙ (whole ∙ (ap (λ z. z ++ back) first ∙ (ap (λ z. take last text ++ z) rest ∙ take-append-drop last text)))
