use Rattle.std.proofs.Common.{take}
use Rattle.ptree.specs.Codes.{codes_of}
use Rattle.ptree.specs.Style.{style_of, flags}
use Rattle.ptree.proofs.Styles.CodeLists.{flag_more}
use Rattle.ptree.proofs.style.codes.Codes.push_flags.Goals as goal

pub returns-clause-text : goal.returns-clause-text
returns-clause-text c =
    let base = codes_of c.args.self.now in
    let fs = flags (style_of c.args.style.now) in
    flag_more base _ _ (take 7 fs) _ c.push_flag-8.ensures.text (flag_more base _ _ (take 6 fs) _ c.push_flag-7.ensures.text
    (flag_more base _ _ (take 5 fs) _ c.push_flag-6.ensures.text (flag_more base _ _ (take 4 fs) _ c.push_flag-5.ensures.text
    (flag_more base _ _ (take 3 fs) _ c.push_flag-4.ensures.text (flag_more base _ _ (take 2 fs) _ c.push_flag-3.ensures.text
    (flag_more base _ _ (take 1 fs) _ c.push_flag-2.ensures.text c.push_flag.ensures.text))))))
