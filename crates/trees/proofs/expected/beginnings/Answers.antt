use Rattle.trees.proofs.Common.{◌≡◌, [], ◌++◌, ℕ, Bool, List, codes, length, map, sym, ap, ◌∙◌, string_bytes, subst, rules, length-map, ConfigValue, config_of, IsFollowedBy, AreFlags, written_look}
use Rattle.ptree.specs.Pieces.{Pieces, pieces_of, config_pieces}
use Rattle.trees.specs.Expected.{ListsBeginnings, AreFronts, HasFronts, AddsListed, AddsTexts, IsFlagged, EndsFront}
use Rattle.trees.proofs.Beginnings.{IsBehind, follows_listed, if_listed, listed_beginnings}
use Rattle.trees.proofs.expected.beginnings.Goals as goal

pub prefixes-requires-clause-fronts : goal.prefixes-requires-clause-fronts
prefixes-requires-clause-fronts c =
    let same : c.in_ok-fronts.fronts.items ≡ c.deref.result.now = search rules in
    subst (λ xs. AreFronts (pieces_of c.in_ok-indent.indent) (map string_bytes xs)) same c.in_ok-fronts.ensures.0

pub returns : goal.returns
returns c =
    let config : ConfigValue = config_of c.args.config.now in
    let before : List ℕ = c.args.before.now in
    let p : Pieces = pieces_of c.in_ok-indent.indent in
    let held : p ≡ config_pieces c.args.config.now = c.in_ok-indent.ensures in
    let fronts = c.deref.result.now in
    let all : List (List ℕ) = map string_bytes fronts in
    let n : ℕ = length fronts in
    let line : List ℕ = c.last_line.result.now in
    let same : c.in_ok-fronts.fronts.items ≡ fronts = search rules in
    let are : AreFronts (config_pieces c.args.config.now) all = subst (λ q. AreFronts q all) held (subst (λ xs. AreFronts p (map string_bytes xs)) same c.in_ok-fronts.ensures.0) in
    let has : HasFronts (config_pieces c.args.config.now) line all = subst (λ q. HasFronts q line all) held (subst (λ xs. HasFronts p line (map string_bytes xs)) same c.in_ok-fronts.ensures.1) in
    let end : n ≡ length all = sym (length-map fronts string_bytes) in
    let items = c.in_ok-prefixes.prefixes.items in
    let given = c.deref-3.result.now in
    let shown = c.deref-4.result.now in
    let flags : List Bool = c.deref-5.result.now in
    let texts : List (List ℕ) = map string_bytes shown in
    let tried_is : items ≡ c.deref-2.result.now = search rules in
    let given_is : c.in_ok-lines.lines.items ≡ given = search rules in
    let shown_is : items ≡ shown = search rules in
    let flags_is : c.in_ok-flags.flags.items ≡ flags = search rules in
    let behind : AddsTexts (EndsFront p all n) [] texts = subst (λ xs. AddsTexts (EndsFront p all n) [] (map string_bytes xs)) shown_is c.in_ok-prefixes.ensures in
    let lines : map string_bytes given ≡ map (λ text. text ++ codes "x") texts = ap (map string_bytes) (sym given_is) ∙ (c.in_ok-lines.ensures ∙ ap (λ xs. map (λ text. text ++ codes "x") (map string_bytes xs)) (sym tried_is ∙ shown_is)) in
    let Is : List ℕ → Type 0 = IsFollowedBy (written_look c.args.config.now) c.args.config.now.depth before in
    let set : AreFlags Is (map (λ text. text ++ codes "x") texts) flags = subst (λ xs. AreFlags Is xs flags) lines (subst (AreFlags Is (map string_bytes given)) flags_is c.in_ok-flags.ensures) in
    if_listed (AddsListed (IsFlagged texts flags (length flags)) []) (ListsBeginnings config before) c.listed.result
    (λ s listed. listed_beginnings config before line c.requires (search rules) all are has n end s
    (subst (λ q. AddsListed (IsBehind config before q all n) [] s) held (follows_listed config before p all texts n flags s behind set listed))) c.listed.ensures
