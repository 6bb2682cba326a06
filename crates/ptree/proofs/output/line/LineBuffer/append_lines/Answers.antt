use Rattle.std.proofs.Common.{◌≡◌, ◌≤◌, ◌+◌, ◌-◌, ◌++◌, ◌∙◌, ℕ, List, ap, sym, subst, take, drop, length, length-drop, append_assoc, arith}
use Rattle.std.proofs.lemmas.List.{take_rest}
use Rattle.std.specs.Result.{OnOk}
use Rattle.ptree.specs.Drawing.{with_inserted}
use Rattle.ptree.specs.Line.{line_bytes}
use Rattle.ptree.proofs.Drawing.Inserted.{inserted_none, no_line_feed_from_reads}
use Rattle.ptree.proofs.Reading.LineFeedSearch.{inserted_at_feed}
use Rattle.ptree.proofs.output.line.LineBuffer.append_lines.Goals as goal

shorter : (xs : List ℕ) (n m : ℕ) → length xs ≤ m → length (take (length xs - n) (drop n xs)) ≤ m
shorter xs n m h = omega (arith, ap length (take_rest xs n), length-drop n xs, h)

regrouped : (old line front further more : List ℕ) → (((old ++ line) ++ front) ++ further) ++ more ≡ old ++ ((line ++ (front ++ further)) ++ more)
regrouped old line front further more = simp append_assoc

pub loop-end-init : goal.loop-end-init
loop-end-init c =
    let bytes = c.args.bytes.now in
    let start = c.args.start in
    let spread = with_inserted (take c.args.width bytes ++ c.args.further.now) in
    record {
      put = ap (λ z. z ++ spread (take (length bytes - start) (drop start bytes))) c.in_ok-append.ensures.bytes
          ∙ (append_assoc (line_bytes c.args.self.now) (take start bytes) (spread (take (length bytes - start) (drop start bytes))) ∙ ap (λ z. line_bytes c.args.self.now ++ (take start bytes ++ spread z)) (take_rest bytes start));
      shorter = shorter bytes start (length bytes) (omega arith);
      within = c.first_line_feed-end.ensures.within;
      before = c.first_line_feed-end.ensures.before;
      at = c.first_line_feed-end.ensures.at;
    }

pub loop-end-preserved : goal.loop-end-preserved
loop-end-preserved c =
    let inv = c.loop-end.invariant in
    let rest = c.loop-end.rest.now in
    let end = c.loop-end.end in
    let front = take c.args.width c.args.bytes.now in
    let further = c.args.further.now in
    let spread = with_inserted (front ++ further) in
    let line = inserted_at_feed (front ++ further) rest end c.loop-end-test.true inv.before (inv.at c.loop-end-test.true) in
    let put = c.in_ok-append-4.ensures.bytes ∙ ap (λ z. z ++ further) (c.in_ok-append-3.ensures.bytes ∙ ap (λ z. z ++ front) c.in_ok-append-2.ensures.bytes) in
    record {
      put = ap (λ z. z ++ spread (take (length rest - (end + 1)) (drop (end + 1) rest))) put
          ∙ (ap (λ z. (((line_bytes c.loop-end.self ++ take (end + 1) rest) ++ front) ++ further) ++ spread z) (take_rest rest (end + 1))
          ∙ (regrouped _ _ front further _ ∙ (ap (λ z. line_bytes c.loop-end.self ++ z) (sym line) ∙ inv.put)));
      shorter = shorter rest (end + 1) (length c.args.bytes.now) inv.shorter;
      within = c.first_line_feed-end-in-loop-end.ensures.within;
      before = c.first_line_feed-end-in-loop-end.ensures.before;
      at = c.first_line_feed-end-in-loop-end.ensures.at;
    }

pub returns : goal.returns
returns c =
    let inv = c.loop-end.invariant in
    let rest = c.loop-end.rest.now in
    let none = no_line_feed_from_reads rest (λ k less. inv.before k (omega (arith, less, c.loop-end-test.false))) in
    let whole = sym (ap (λ z. line_bytes c.loop-end.self ++ z) (inserted_none (take c.args.width c.args.bytes.now ++ c.args.further.now) rest none)) ∙ inv.put in
    subst (λ (z : List ℕ). OnOk c.append-2.result (line_bytes c.append-2.new.self ≡ z)) whole c.append-2.ensures.bytes
