use Rattle.trees.proofs.Common.{◌≡◌, ◌∙◌, false, codes, sym, false≢true, begins_with}
use Rattle.trees.proofs.NameParts.{starts_is}
use Rattle.trees.proofs.deps.forms.line_not_read.Goals as goal
use Rattle.trees.proofs.deps.forms.line_not_read.Goals.{then-starts_with-2, else-starts_with-2}

pub returns-else-starts_with-6 : goal.returns-else-starts_with-6
returns-else-starts_with-6 c =
    let line = c.args.line.now in
    let pnpm : begins_with (codes "lockfileVersion:") line ≡ false = sym (starts_is (codes "lockfileVersion:") line c.starts_with.result c.starts_with.ensures.cases) ∙ c.if-starts_with.false in
    let yarn : begins_with (codes "# yarn lockfile ") line ≡ c.starts_with-else-starts_with.result = sym (starts_is (codes "# yarn lockfile ") line c.starts_with-else-starts_with.result c.starts_with-else-starts_with.ensures.cases) in
    let go : begins_with (codes "go 1.") line ≡ false = sym (starts_is (codes "go 1.") line c.starts_with-else-starts_with-3.result c.starts_with-else-starts_with-3.ensures.cases) ∙ c.if-starts_with-4.false in
    let pdm : begins_with (codes "lock_version = ") line ≡ false = sym (starts_is (codes "lock_version = ") line c.starts_with-else-starts_with-4.result c.starts_with-else-starts_with-4.ensures.cases) ∙ c.if-starts_with-5.false in
    let composer : begins_with (codes "    \"_readme\": [") line ≡ false = sym (starts_is (codes "    \"_readme\": [") line c.starts_with-else-starts_with-5.result c.starts_with-else-starts_with-5.ensures.cases) ∙ c.if-starts_with-6.false in
    elim c.if-starts_with-2.branch [
      | then-starts_with-2 w ↦ absurd (false≢true (sym c.if-starts_with-3.false ∙ (w.value-is ∙ w.if-starts_with-2.true)))
      | else-starts_with-2 w ↦
          let berry : begins_with (codes "__metadata:") line ≡ false = sym (starts_is (codes "__metadata:") line w.starts_with-else-starts_with-2.result w.starts_with-else-starts_with-2.ensures.cases) ∙ (sym w.value-is ∙ c.if-starts_with-3.false) in
          rw (pnpm, yarn, w.if-starts_with-2.false, berry, go, pdm, composer)
    ]
