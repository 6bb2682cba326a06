use Rattle.std.proofs.Common.{◌≤◌, ◌-◌, length, ap, ◌∙◌, arith}
use Rattle.ptree.specs.GivenItems.{entry_behind}
use Rattle.ptree.specs.GivenItems as given
use Rattle.ptree.specs.ItemWriter.{writer_look, path_of}
use Rattle.ptree.specs.Style.{painted_text}
use Rattle.ptree_c.specs.Fields.{is_set}
use Rattle.ptree_c.specs.Steps.{step_own}
use Rattle.ptree_c.proofs.Given.{entry_of_step, on_path_with}
use Rattle.ptree_c.proofs.steps.make_step.Goals as goal

pub returns-in-Ok-clause-entry : goal.returns-in-Ok-clause-entry
returns-in-Ok-clause-entry c =
    let s = c.args.step.now in
    let texts = c.args.texts.now.bytes.now in
    let here = c.go_below.new.writer in
    let flags = path_of here in
    let few : s.level - 1 ≤ length flags = omega (arith, c.saturating_sub.ensures, c.in_ok-go_below.ensures.level) in
    c.in-Ok.ensures.entry
    ∙ (ap (λ b. entry_behind (writer_look here) flags s.level b (painted_text (writer_look here).leaf c.part-text.result.now)) c.flag.ensures
    ∙ (ap (λ t. entry_behind (writer_look here) flags s.level (is_set s.is_last) (painted_text (writer_look here).leaf t)) c.part-text.ensures
    ∙ (ap (λ k. entry_behind k flags s.level (is_set s.is_last) (step_own k texts s)) c.go_below.ensures.look
    ∙ entry_of_step (writer_look c.args.writer.now) texts c.args.path.now flags s few c.in_ok-go_below.ensures.on_path.1)))

pub returns-in-Ok-clause-on_path : goal.returns-in-Ok-clause-on_path
returns-in-Ok-clause-on_path c =
    let s = c.args.step.now in
    let here = c.go_below.new.writer in
    let few : s.level - 1 ≤ length (path_of here) = omega (arith, c.saturating_sub.ensures, c.in_ok-go_below.ensures.level) in
    on_path_with c.args.path.now here c.make_text.new.self s.level s.is_last c.requires.within c.in_ok-go_below.ensures.on_path few
    (c.in-Ok.ensures.path ∙ ap (λ b. given.path_with (path_of here) s.level b) c.flag.ensures)
