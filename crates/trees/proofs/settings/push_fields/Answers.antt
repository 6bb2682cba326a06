use Rattle.trees.proofs.Common.{List, get_or, string_bytes, subst, take_all, get_or_default, config_of}
use Rattle.ptree.specs.declared.print_config.fields.Field.{Field}
use Rattle.ptree.specs.declared.print_config.fields.Field.TheVariants.{Depth}
use Rattle.trees.specs.Reading.{Adds}
use Rattle.trees.specs.Settings.{IsSettingLine}
use Rattle.trees.proofs.Reports.{adds_nothing, adds_next}
use Rattle.trees.proofs.settings.push_fields.Goals as goal

pub loop-field-init : goal.loop-field-init
loop-field-init c = adds_nothing (IsSettingLine (config_of c.args.config.now)) (string_bytes c.args.text.now)

pub loop-field-preserved : goal.loop-field-preserved
loop-field-preserved c =
    let fields = c.args.fields.now in
    let i = c.loop-field.field-index in
    let field = get_or fields i Depth in
    let (line, added, is) = c.in_ok-push_field.ensures in
    adds_next (IsSettingLine (config_of c.args.config.now)) fields i field (string_bytes c.args.text.now) (string_bytes c.loop-field.text) (string_bytes c.push_field.new.text) line
    c.loop-field-test.true (get_or_default fields i Depth field c.loop-field-test.true) c.loop-field.invariant added is

pub returns : goal.returns
returns c =
    subst (λ (xs : List Field). Adds (IsSettingLine (config_of c.args.config.now)) xs (string_bytes c.args.text.now) (string_bytes c.loop-field.text))
    (take_all c.loop-field.field-index c.args.fields.now c.loop-field-test.false) c.loop-field.invariant
