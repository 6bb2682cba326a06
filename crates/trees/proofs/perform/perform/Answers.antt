use Rattle.trees.proofs.perform.perform.Goals as goal

pub returns-in-Check-clause-told : goal.returns-in-Check-clause-told
returns-in-Check-clause-told g c = rw c.in-Check.is c.check.ensures.told

pub returns-in-Config-clause-told : goal.returns-in-Config-clause-told
returns-in-Config-clause-told g c = rw c.in-Config.is c.show_settings.ensures.told

pub returns-in-Indented-clause-written : goal.returns-in-Indented-clause-written
returns-in-Indented-clause-written g c = rw c.in-Indented.is c.write_indented.ensures.written

pub returns-in-Convert-clause-written : goal.returns-in-Convert-clause-written
returns-in-Convert-clause-written g c = rw c.in-Convert.is (c.draw_converted.ensures.written, c.draw_converted.ensures.back)

pub returns-in-Draw-clause-written : goal.returns-in-Draw-clause-written
returns-in-Draw-clause-written g c = rw c.in-Draw.is c.draw_source.ensures.written

pub returns-in-Deps-clause-written : goal.returns-in-Deps-clause-written
returns-in-Deps-clause-written g c = rw c.in-Deps.is c.draw_deps.ensures.written

pub returns-in-Diff-clause-written : goal.returns-in-Diff-clause-written
returns-in-Diff-clause-written g c = rw c.in-Diff.is c.compare_drawings.ensures.written

pub returns-in-Check-clause-written : goal.returns-in-Check-clause-written
returns-in-Check-clause-written g c = rw c.in-Check.is c.check.ensures.written

pub returns-in-Config-clause-written : goal.returns-in-Config-clause-written
returns-in-Config-clause-written g c = rw c.in-Config.is c.show_settings.ensures.written

pub returns-in-Draw-clause-shown : goal.returns-in-Draw-clause-shown
returns-in-Draw-clause-shown g c = rw c.in-Draw.is c.draw_source.ensures.shown

pub returns-in-Deps-clause-shown : goal.returns-in-Deps-clause-shown
returns-in-Deps-clause-shown g c = rw c.in-Deps.is c.draw_deps.ensures.shown

pub returns-in-Indented-clause-shown : goal.returns-in-Indented-clause-shown
returns-in-Indented-clause-shown g c = rw c.in-Indented.is c.write_indented.ensures.shown

pub returns-in-Check-clause-shown : goal.returns-in-Check-clause-shown
returns-in-Check-clause-shown g c = rw c.in-Check.is c.check.ensures.shown

pub returns-in-Convert-clause-shown : goal.returns-in-Convert-clause-shown
returns-in-Convert-clause-shown g c = rw c.in-Convert.is c.draw_converted.ensures.shown

pub returns-in-Diff-clause-shown : goal.returns-in-Diff-clause-shown
returns-in-Diff-clause-shown g c = rw c.in-Diff.is c.compare_drawings.ensures.shown

pub returns-in-Config-clause-shown : goal.returns-in-Config-clause-shown
returns-in-Config-clause-shown g c = rw c.in-Config.is c.show_settings.ensures.shown
