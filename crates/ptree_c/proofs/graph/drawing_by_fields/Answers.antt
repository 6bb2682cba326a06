use Rattle.std.proofs.Common.{IfOk, false, subst}
use Rattle.std.specs.Prelude.{String, option_copied}
use Rattle.std.specs.declared.alloc.Global.{Global}
use Rattle.ptree.specs.Config.{ConfigValue}
use Rattle.ptree.specs.Drawing.{look_by}
use Rattle.ptree.specs.declared.graph.Graph.{Graph}
use Rattle.ptree.specs.declared.print_config.OutputKind.TheVariants.{Unknown}
use Rattle.ptree_c.specs.Graphs.{IsGraphDrawing, IsGraphOf}
use Rattle.ptree_c.proofs.graph.drawing_by_fields.Goals as goal

pub returns-clause-drawn : goal.returns-clause-drawn
returns-clause-drawn c =
    subst (λ (v : ConfigValue). IfOk c.drawing_given-drawing.result (λ made. (g : Graph (String Global)) × IsGraphOf c.args.ends.now c.args.texts.now c.args.edges.now g × IsGraphDrawing (option_copied c.args.mark) (look_by v Unknown false) v.depth g c.args.start made.items))
    c.in_ok-config.ensures.value c.drawing_given-drawing.ensures
