use Rattle.std.proofs.Common.{◌≡◌, false, length, inr, subst}
use Rattle.ptree.specs.Config.{ConfigValue}
use Rattle.ptree.specs.Drawing.{look_by}
use Rattle.ptree.specs.declared.print_config.OutputKind.TheVariants.{Unknown}
use Rattle.ptree_c.specs.Calls.{IsItemsDrawing}
use Rattle.ptree_c.specs.Rooms.{HasPut}
use Rattle.ptree_c.proofs.draw.ptree_draw_with.Goals as goal

pub returns-in-Ok-clause-drawn : goal.returns-in-Ok-clause-drawn
returns-in-Ok-clause-drawn c =
    subst (λ (v : ConfigValue). c.put_outline.result ≡ 0 → HasPut (IsItemsDrawing (look_by v Unknown false) v.depth c.args.items.now c.args.texts.now) (length c.args.items.now) c.args.out.now c.put_outline.new.out c.put_outline.new.found) c.in-Ok.ensures.value c.put_outline.ensures.drawn

pub returns-in-Ok-clause-refused : goal.returns-in-Ok-clause-refused
returns-in-Ok-clause-refused c = λ no. (let why = c.put_outline.ensures.refused no in (why.0, why.1, inr why.2))
