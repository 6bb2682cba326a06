use Rattle.trees.proofs.Common.{◌≡◌, ◌↔◌, ◌∙◌, IfOk, IsTrue, Some, ap, sym, subst, rules, ConfigValue, config_of}
use Rattle.trees.specs.Asked.{pieces_value, with_own, with_pieces}
use Rattle.trees.specs.Named.{IsReadBy, IsUnreadBy}
use Rattle.trees.proofs.pieces.is_read_with.Goals as goal

pub returns-then-eq : goal.returns-then-eq
returns-then-eq c =
    let p = c.args.pieces in
    let config = config_of c.args.config.now in
    let own : config_of c.in_ok-own.own ≡ config = search rules in
    let same : config_of c.set.new.config ≡ with_pieces (Some p) config = c.in_ok-set.ensures ∙ ap (with_own (pieces_value p)) own in
    let equal : config_of c.set.new.config ≡ config = search rules in
    let unread : IsUnreadBy (with_pieces (Some p) config) c.args.text.now = subst (λ (v : ConfigValue). IsUnreadBy v c.args.text.now) (sym equal ∙ same) c.requires in
    search (rules, unread)

pub returns : goal.returns
returns c =
    let p = c.args.pieces in
    let own : config_of c.in_ok-own.own ≡ config_of c.args.config.now = search rules in
    let same : config_of c.set.new.config ≡ with_pieces (Some p) (config_of c.args.config.now) = c.in_ok-set.ensures ∙ ap (with_own (pieces_value p)) own in
    subst (λ (v : ConfigValue). IfOk c.is_read-is_drawing.result (λ b. IsTrue b ↔ IsReadBy v c.args.text.now)) same c.is_read-is_drawing.ensures
