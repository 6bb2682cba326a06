use Rattle.std.proofs.lemmas.Result.{IfOk-weaker}
use Rattle.ptree.specs.declared.print_config.Sources.{Sources}
use Rattle.ptree_c.specs.Loads.{AreSources, AreLoaded}
use Rattle.ptree_c.proofs.load.fields_loaded.Goals as goal

pub returns : goal.returns
returns c =
    IfOk-weaker c.fields_of_sources.result (λ w. AreLoaded c.in_ok-sources.sources w.names.items w.fields)
    (λ w. (s : Sources) × AreSources c.args.file.now c.args.format c.args.variables.now c.args.texts.now s × AreLoaded s w.names.items w.fields)
    (λ w got. (c.in_ok-sources.sources, c.in_ok-sources.ensures, got)) c.fields_of_sources.ensures
