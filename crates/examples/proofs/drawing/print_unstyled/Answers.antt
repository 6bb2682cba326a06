use Rattle.std.proofs.Common.{◌≡◌, Bool, false, ap, sym, ◌∙◌, subst}
use Rattle.ptree.specs.declared.print_config.OutputKind.{OutputKind}
use Rattle.ptree.specs.declared.print_config.OutputKind.TheVariants.{Stdout, Unknown}
use Rattle.ptree.specs.declared.print_config.PrintConfig.{PrintConfig}
use Rattle.ptree.specs.declared.print_config.StyleWhen.TheVariants.{Never}
use Rattle.ptree.specs.Config.{is_styled}
use Rattle.ptree.specs.Drawing.{Look, look_from, config_look, written_look, effective_style}
use Rattle.ptree.specs.Pieces.{config_pieces, marker_of}
use Rattle.ptree.specs.Style.{style_of}
use Rattle.ptree.specs.Tree.{tree_of, shape_of_tree}
use Rattle.ptree.specs.Writing.{IsDrawn, LeavesWholeEntries}
use Rattle.examples.proofs.drawing.print_unstyled.Goals as goal

-- where output is never styled, its kind and the terminal do not matter
plain_look : (config : PrintConfig) (kind : OutputKind) (terminal : Bool) → config.styled ≡ Never
    → config_look config kind terminal
    ≡ look_from (effective_style false (style_of config.branch)) (effective_style false (style_of config.leaf)) (config_pieces config) (marker_of config)
plain_look config kind terminal never =
    ap (λ s. look_from (effective_style (is_styled s kind terminal) (style_of config.branch)) (effective_style (is_styled s kind terminal) (style_of config.leaf))
    (config_pieces config) (marker_of config)) never

-- so what holds of the look on a terminal or none holds of that elsewhere
elsewhere : (P : Look → Type 0) (config : PrintConfig) (terminal : Bool) → config.styled ≡ Never → P (config_look config Stdout terminal) → P (written_look config)
elsewhere P config terminal never h = subst P (plain_look config Stdout terminal never ∙ sym (plain_look config Unknown false never)) h

pub returns-clause-bytes : goal.returns-clause-bytes
returns-clause-bytes g c =
    let drawn = c.print_tree_to.ensures.bytes in
    elsewhere (λ look. IsDrawn look (shape_of_tree (tree_of c.args.tree.now)) c.args.config.now.depth (g.W.Sink.contents c.args.out.now) (g.W.Sink.contents c.print_tree_to.new.out) c.print_tree_to.result)
    c.args.config.now drawn.0 c.requires drawn.2

pub returns-clause-whole : goal.returns-clause-whole
returns-clause-whole g c =
    let left = c.print_tree_to.ensures.whole in
    elsewhere (λ look. LeavesWholeEntries look (shape_of_tree (tree_of c.args.tree.now)) c.args.config.now.depth (g.W.Sink.contents c.args.out.now) (g.W.Sink.contents c.print_tree_to.new.out) c.print_tree_to.result)
    c.args.config.now left.0 c.requires left.2
