use Rattle.std.proofs.Common.{sym, subst}
use Rattle.ptree_c.specs.Loads.{AreLoaded}
use Rattle.ptree_c.proofs.load.ptree_load.Goals as goal

pub returns-in-Ok-clause-loaded : goal.returns-in-Ok-clause-loaded
returns-in-Ok-clause-loaded c = λ done.
    let s = c.in-Ok.ensures.0 in
    let names = c.in-Ok.written.names.items in
    (s, names, c.in-Ok.ensures.1, subst (λ f. AreLoaded s names f) (sym c.put_fields.ensures.fields) c.in-Ok.ensures.2, c.put_fields.ensures.names, c.put_fields.ensures.found)
