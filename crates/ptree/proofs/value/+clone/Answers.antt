use Rattle.std.proofs.Common.{rules, ◌≡◌, ◌∙◌, ap, sym, Some}
use Rattle.ptree.specs.Data.{something}
use Rattle.ptree.specs.Value.{data_of}
use Rattle.ptree.specs.declared.value.Value.{Option, the_lemmas}
use Rattle.ptree.proofs.Values.ValuePairs.{data_of-Some}
use Rattle.ptree.proofs.value.+clone.Goals as goal

pub Value::clone-returns-in_ok-clone_boxed-in-Option-Some : goal.Value::clone-returns-in_ok-clone_boxed-in-Option-Some
Value::clone-returns-in_ok-clone_boxed-in-Option-Some t c =
    let x = c.in-Option-Some.value in
    let same : data_of c.in_ok-clone_boxed-in-Option-Some.field-0.value ≡ data_of x.value = search rules in
    let whole : data_of (Option (Some x)) ≡ data_of c.args.self.now = search (rules, the_lemmas) in
    data_of-Some c.in_ok-clone_boxed-in-Option-Some.field-0 ∙ ap something same ∙ sym (data_of-Some x) ∙ whole
