use Rattle.trees.proofs.Common.{◌≡◌, ◌∙◌, ℕ, Bool, true, false, List, [], get_or, map, take, sym, subst, rules, take_all, Bor, or_from, or_left, or_right, list_any}
use Rattle.std.proofs.lemmas.List.Folds.{list_any_more, list_any_at}
use Rattle.trees.specs.Listing.{is_cut_off}
use Rattle.trees.specs.ListingParts.{is_wrong_line, are_wrong_lines}
use Rattle.trees.proofs.Listings.{any_map}
use Rattle.trees.proofs.Readings.{fails_by_input}
use Rattle.trees.proofs.lists.check_lines.Goals as goal

pub returns-then-is_cut_off-clause-failed : goal.returns-then-is_cut_off-clause-failed
returns-then-is_cut_off-clause-failed c =
    let texts = map (λ (l : Bor (List ℕ)). l.now) c.args.lines.now in
    let others = c.args.others in
    fails_by_input (are_wrong_lines c.args.ends_in_zero others texts ≡ true) ⊥ c.in_ok-wrong_at.field-0 c.in_ok-wrong_at.ensures.input
    (or_left (is_cut_off c.args.ends_in_zero texts) (list_any (is_wrong_line c.args.ends_in_zero others) texts) (search rules))

pub returns-in-Some-clause-failed : goal.returns-in-Some-clause-failed
returns-in-Some-clause-failed c =
    let lines = c.args.lines.now in
    let texts = map (λ (l : Bor (List ℕ)). l.now) lines in
    let i = c.loop-i.i in
    let wrong : List ℕ → Bool = is_wrong_line c.args.ends_in_zero c.args.others in
    let here : wrong (get_or lines i (record { ref_ptr = (0, 0); now = [] })).now ≡ true = search rules in
    let some : list_any wrong texts ≡ true = sym (any_map wrong lines) ∙ list_any_at (λ (x : Bor (List ℕ)). wrong x.now) lines i _ c.loop-i-test.true here in
    fails_by_input (are_wrong_lines c.args.ends_in_zero c.args.others texts ≡ true) ⊥ c.in_ok-wrong_at-2.field-0 c.in_ok-wrong_at-2.ensures.input
    (or_right (is_cut_off c.args.ends_in_zero texts) (list_any wrong texts) some)

pub loop-i-preserved : goal.loop-i-preserved
loop-i-preserved c =
    let lines = c.args.lines.now in
    let i = c.loop-i.i in
    let wrong : Bor (List ℕ) → Bool = λ x. is_wrong_line c.args.ends_in_zero c.args.others x.now in
    let line : Bor (List ℕ) = get_or lines i (record { ref_ptr = (0, 0); now = [] }) in
    let right : wrong line ≡ false = search rules in
    list_any_more wrong lines i (record { ref_ptr = (0, 0); now = [] }) c.loop-i-test.true ∙ or_from (list_any wrong (take i lines)) (wrong line) c.loop-i.invariant right

pub returns-clause-right : goal.returns-clause-right
returns-clause-right c =
    let lines = c.args.lines.now in
    let texts = map (λ (l : Bor (List ℕ)). l.now) lines in
    let wrong : List ℕ → Bool = is_wrong_line c.args.ends_in_zero c.args.others in
    let none : list_any (λ (x : Bor (List ℕ)). wrong x.now) lines ≡ false = subst (λ (ls : List (Bor (List ℕ))). list_any (λ x. wrong x.now) ls ≡ false) (take_all c.loop-i.i lines c.loop-i-test.false) c.loop-i.invariant in
    or_from (is_cut_off c.args.ends_in_zero texts) (list_any wrong texts) (search rules) (sym (any_map wrong lines) ∙ none)
