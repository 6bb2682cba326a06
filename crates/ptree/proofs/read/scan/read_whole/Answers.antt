use Rattle.std.proofs.Common.{◌≡◌, ◌∷◌, ◌++◌, [], length, ap, refl, rules, subst, sym, ◌∙◌}
use Rattle.ptree.specs.DrawnForm.{IsDrawnOutline}
use Rattle.ptree.specs.Looks.{look_of}
use Rattle.ptree.specs.Outline.{line, outline}
use Rattle.ptree.specs.PartialTree.{partial_lines}
use Rattle.ptree.specs.Pieces.{pieces_of}
use Rattle.ptree.specs.ReadItems.{read_text_of}
use Rattle.ptree.specs.Scanned.{IsError, IsScanned}
use Rattle.ptree.specs.Tree.{tree_of}
use Rattle.ptree.proofs.Reading.Scanning.{scan_moved}
use Rattle.ptree.proofs.read.scan.read_whole.Goals as goal

pub loop-tree-init : goal.loop-tree-init
loop-tree-init c =
    let start = c.in_ok-own.ensures in
    record {
      path = c.new-path.ensures.path (pieces_of c.args.frame.now.look.pieces);
      partial = c.new-tree.ensures.partial;
      level = ap length c.new-tree.ensures.parents ∙ sym (ap length c.new-path.ensures.flags);
      scanned = scan_moved (subst (IsScanned (look_of c.args.frame.now.look) c.args.frame.now.depth c.args.text.now c.in_ok-own.start.rest.now c.in_ok-own.start.lines [] 0 c.in_ok-own.own.now) (sym c.new-path.ensures.flags) start)
          c.new-tree.ensures.lines (ap length c.new-path.ensures.flags) refl;
    }

pub returns-in_err-item : goal.returns-in_err-item
returns-in_err-item c =
    let s = c.loop-tree.invariant in
    let error : IsError (look_of c.args.frame.now.look) c.args.frame.now.depth c.args.text.now c.in_err-item.field-0.0 = c.in_err-item.ensures.end (partial_lines c.loop-tree.tree) s.scanned in
    search (rules, error)

pub returns-in_default : goal.returns-in_default
returns-in_default c =
    let k = look_of c.args.frame.now.look in
    let tree = c.loop-tree.tree in
    let level = length c.loop-tree.path.flags.items in
    let lines = partial_lines tree ++ line level (read_text_of c.in_ok-item.field-0.text) ∷ [] in
    let ended : IsDrawnOutline k c.args.frame.now.depth c.args.text.now lines = rw c.in_default.is at c.in_ok-item.ensures.end (partial_lines tree) c.loop-tree.invariant.scanned in
    let same : outline (tree_of c.in_ok-finish.field-0) ≡ lines =
    c.in_ok-finish.ensures ∙ ap (λ n. partial_lines tree ++ line n c.in_ok-into_string.field-0.bytes.items ∷ []) c.loop-tree.invariant.level ∙ ap (λ z. partial_lines tree ++ line level z ∷ []) c.in_ok-into_string.ensures in
    subst (IsDrawnOutline k c.args.frame.now.depth c.args.text.now) (sym same) ended

pub loop-tree-preserved : goal.loop-tree-preserved
loop-tree-preserved c =
    let k = look_of c.args.frame.now.look in
    let depth = c.args.frame.now.depth in
    let x = c.args.text.now in
    let tree = c.loop-tree.tree in
    let new = c.read_item.new in
    let level = length c.loop-tree.path.flags.items in
    let lines = partial_lines tree ++ line level (read_text_of c.in_ok-item.field-0.text) ∷ [] in
    let next : IsScanned k depth x new.place.rest.now new.place.lines lines (length new.path.flags.items) c.in-Some.own.now new.path.flags.items =
    rw c.in-Some.is at c.in_ok-item.ensures.end (partial_lines tree) c.loop-tree.invariant.scanned in
    record {
      path = c.in_ok-item.ensures.path;
      partial = c.in_ok-add.ensures.partial;
      level = c.in_ok-add.ensures.level ∙ c.level.ensures;
      scanned = scan_moved next (c.in_ok-add.ensures.lines ∙ ap (λ n. partial_lines tree ++ line n c.in_ok-into_string-2.field-0.bytes.items ∷ []) c.loop-tree.invariant.level ∙ ap (λ z. partial_lines tree ++ line level z ∷ []) c.in_ok-into_string-2.ensures) refl refl;
    }
