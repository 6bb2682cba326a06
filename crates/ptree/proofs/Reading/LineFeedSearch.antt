-- Searches for line feeds by vectors.
use Rattle.std.proofs.Common.{◌≡◌, ◌≢◌, ℕ, ◌+◌, ◌-◌, ◌%◌, ◌^◌, ◌≤◌, ◌<◌, Bool, cond, not, eqb, List, length, length-take, get_or, take, drop, [], ◌∷◌, ◌++◌, map, sym, ap, ◌∙◌, append_assoc, arith}
use Rattle.std.specs.List.{prefix_len}
use Rattle.std.proofs.lemmas.Bool.{eqb-true, eqb-false, eq-eqb, ne_eqb}
use Rattle.std.proofs.lemmas.List.{get_or-take, take_more, drop_more, take-append-drop}
use Rattle.std.proofs.lemmas.Simd.{bitmask_splat, first_set_mask_l, run_in_chunk_le, run_in_chunk_fails, run_in_chunk_stops, length-chunk}
use Rattle.ptree.specs.Drawing.{with_inserted}
use Rattle.ptree.specs.Texts.{HasNoLineFeed}
use Rattle.ptree.proofs.Drawing.Inserted.{inserted_line, no_line_feed_from_reads}
use lib.Count.{count_trailing_zeros}
use lib.Lanes.{chunk, mask_l, top, zip2}
use lib.ListN.{replicate}
use mir.Syntax.{w8}
use mir.Val.{bits, hbits}

-- how many of the sixteen bytes at a place precede the first line feed
pub record IsFeedless (bytes : List ℕ) (place n : ℕ) : Type 0 where
  pub most : n ≤ 16
  pub before : (k : ℕ) → place ≤ k → k < place + n → get_or bytes k 0 ≢ 10
  pub at : n < 16 → get_or bytes (place + n) 0 ≡ 10

-- the lowest bit of the mask of a load is at its first line feed
feedless_of_mask : (bytes : List ℕ) (place m n : ℕ) → place + 16 ≤ length bytes → m ≡ mask_l (map (λ x. eqb x 10) (chunk place 16 bytes)) → n ≡ cond (eqb m 0) 16 (count_trailing_zeros 64 m) → IsFeedless bytes place n
feedless_of_mask bytes place m n room is count =
    let p : ℕ → Bool = λ x. eqb x 10 in
    let counted : n ≡ prefix_len (λ x. not (p x)) (chunk place 16 bytes) =
    count ∙ (ap (λ z. cond (eqb z 0) 16 (count_trailing_zeros 64 z)) is ∙ first_set_mask_l p (chunk place 16 bytes) 16 (length-chunk place 16 bytes room) (omega arith)) in
    record {
      most = run_in_chunk_le p bytes place 16 n 0 room counted;
      before = λ k low high. eqb-false _ 10 (run_in_chunk_fails p bytes place 16 n 0 room counted k low high);
      at = λ less. eqb-true _ 10 (run_in_chunk_stops p bytes place 16 n 0 room counted less);
    }

-- the mask of a load: a bit for each of the sixteen bytes, set where it is a line feed
abbrev pub feed_mask : List ℕ → ℕ → ℕ
feed_mask bytes place = mask_l (map (top (hbits w8)) (zip2 (λ a b. cond (eqb a b) (2 ^ bits w8 - 1) 0) (chunk place 16 bytes) (replicate 16 10))) % 2 ^ 64

-- what the comparison of a load gives
feed_mask_is : (bytes : List ℕ) (place : ℕ) → place + 16 ≤ length bytes → feed_mask bytes place ≡ mask_l (map (λ x. eqb x 10) (chunk place 16 bytes))
feed_mask_is bytes place room = bitmask_splat w8 eqb (chunk place 16 bytes) 16 10 (length-chunk place 16 bytes room) (omega arith)

-- an empty mask: there is none
pub feedless_none : (bytes : List ℕ) (place : ℕ) → place + 16 ≤ length bytes → feed_mask bytes place ≡ 0 → IsFeedless bytes place 16
feedless_none bytes place room none =
    let m = feed_mask bytes place in
    feedless_of_mask bytes place m 16 room (feed_mask_is bytes place room) (sym (ap (λ z. cond z 16 (count_trailing_zeros 64 m)) (eq-eqb m 0 none)))

-- a mask with a bit
pub feedless_some : (bytes : List ℕ) (place : ℕ) → place + 16 ≤ length bytes → feed_mask bytes place ≢ 0 → IsFeedless bytes place (count_trailing_zeros 64 (feed_mask bytes place))
feedless_some bytes place room some =
    let m = feed_mask bytes place in
    feedless_of_mask bytes place m (count_trailing_zeros 64 m) room (feed_mask_is bytes place room) (sym (ap (λ z. cond z 16 (count_trailing_zeros 64 m)) (ne_eqb m 0 some)))

-- the bytes before the first line feed, and those after it
pub line_at_feed : (text : List ℕ) (end : ℕ) → end < length text → ((k : ℕ) → k < end → get_or text k 0 ≢ 10) → get_or text end 0 ≡ 10 → HasNoLineFeed (take end text) × (text ≡ take end text ++ 10 ∷ drop (end + 1) text)
line_at_feed text end within before feed = (
  no_line_feed_from_reads (take end text) (λ k less e. let low : k < end = omega (arith, length-take end text, less) in before k low (sym (get_or-take end text k 0 low) ∙ e)),
  sym (take-append-drop end text) ∙ (ap (λ z. take end text ++ z) (drop_more text end 0 within) ∙ ap (λ z. take end text ++ z ∷ drop (end + 1) text) feed),
)

-- a text with insertions, from its first line feed on
pub inserted_at_feed : (inserted text : List ℕ) (end : ℕ) → end < length text → ((k : ℕ) → k < end → get_or text k 0 ≢ 10) → get_or text end 0 ≡ 10
    → with_inserted inserted text ≡ (take (end + 1) text ++ inserted) ++ with_inserted inserted (drop (end + 1) text)
inserted_at_feed inserted text end within before feed =
    let line = line_at_feed text end within before feed in
    let whole : take (end + 1) text ≡ take end text ++ 10 ∷ [] = take_more text end 0 within ∙ ap (λ b. take end text ++ b ∷ []) feed in
    ap (with_inserted inserted) line.1 ∙ (inserted_line inserted (take end text) (drop (end + 1) text) line.0
    ∙ sym (ap (λ z. (z ++ inserted) ++ with_inserted inserted (drop (end + 1) text)) whole ∙ regrouped (take end text) inserted _))
  where
    regrouped : (a b c : List ℕ) → ((a ++ 10 ∷ []) ++ b) ++ c ≡ a ++ 10 ∷ (b ++ c)
    regrouped a b c = simp append_assoc
