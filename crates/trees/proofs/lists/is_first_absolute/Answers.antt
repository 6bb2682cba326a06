use Rattle.trees.proofs.Common.{◌≡◌, ◌∙◌, ℕ, true, false, eqb, List, [], length, get_or, map, sym, rules, Bor, at_drop_all}
use Rattle.trees.specs.Listing.{is_absolute}
use Rattle.trees.specs.ListingParts.{is_first_absolute}
use Rattle.trees.proofs.Listings.{first_here, first_later}
use Rattle.trees.proofs.lists.is_first_absolute.Goals as goal

pub returns-then-not-is_empty : goal.returns-then-not-is_empty
returns-then-not-is_empty c =
    let lines = c.args.lines.now in
    let i = c.loop-line.line-index in
    let some : eqb (length (get_or lines i (record { ref_ptr = (0, 0); now = [] })).now) 0 ≡ false = search rules in
    let here : is_absolute (get_or lines i (record { ref_ptr = (0, 0); now = [] })).now ≡ is_first_absolute (map (λ (l : Bor (List ℕ)). l.now) lines) = first_here lines i (record { ref_ptr = (0, 0); now = [] }) c.loop-line-test.true some c.loop-line.invariant in
    search (rules, here)

pub loop-line-preserved : goal.loop-line-preserved
loop-line-preserved c =
    let lines = c.args.lines.now in
    let i = c.loop-line.line-index in
    let none : eqb (length (get_or lines i (record { ref_ptr = (0, 0); now = [] })).now) 0 ≡ true = search rules in
    first_later lines i _ c.loop-line-test.true none c.loop-line.invariant

pub returns : goal.returns
returns c =
    sym (at_drop_all (λ (ls : List (Bor (List ℕ))). is_first_absolute (map (λ l. l.now) ls)) c.args.lines.now c.loop-line.line-index c.loop-line-test.false) ∙ c.loop-line.invariant
