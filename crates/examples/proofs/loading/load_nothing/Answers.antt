use Rattle.std.proofs.Common.{◌≡◌, ◌∙◌, [], None, ap, refl}
use Rattle.std.proofs.lemmas.Result.{IfOk-weaker}
use Rattle.ptree.specs.Config.{default_config}
use Rattle.ptree.specs.Loading.{characters, loaded_style, configuration, fault_in, unless_fault}
use Rattle.ptree.specs.Sources.{Given, Variables, variables_of, last_value, variable, table_at, node}
use Rattle.std.specs.Prelude.{unwrap_or}
use Rattle.examples.proofs.loading.load_nothing.Goals as goal

-- what no file and these variables mean, where there are none
meant : (variables : Variables) → variables ≡ [] → let given : Given = record { variables = variables; document = None } in unwrap_or (unless_fault (fault_in None given) (configuration given)) default_config ≡ default_config
unfolding characters loaded_style configuration fault_in last_value variable table_at node
meant variables e = rw e refl

pub returns : goal.returns
returns c = IfOk-weaker c.from_env.result _ _ (λ config h. h ∙ meant _ (ap variables_of c.new.ensures.items)) c.from_env.ensures.value
