use Rattle.ptree.specs.Drawing.{config_look}
use Rattle.ptree.proofs.Drawing.GivenAddresses.{draws_items}
use Rattle.ptree.proofs.Drawing.GivenLines.{draws_lines}
use Rattle.ptree.proofs.output.writer.ItemWriter.new.Goals as goal

pub returns-in_err-look-clause-items : goal.returns-in_err-look-clause-items
returns-in_err-look-clause-items c = draws_items (config_look c.args.config.now c.args.output_kind c.args.terminal)

pub returns-in_err-look-clause-lines : goal.returns-in_err-look-clause-lines
returns-in_err-look-clause-lines c = draws_lines (config_look c.args.config.now c.args.output_kind c.args.terminal)

pub returns-in_err-pen-clause-items : goal.returns-in_err-pen-clause-items
returns-in_err-pen-clause-items c = draws_items (config_look c.args.config.now c.args.output_kind c.args.terminal)

pub returns-in_err-pen-clause-lines : goal.returns-in_err-pen-clause-lines
returns-in_err-pen-clause-lines c = draws_lines (config_look c.args.config.now c.args.output_kind c.args.terminal)

pub returns-in_err-brush-clause-items : goal.returns-in_err-brush-clause-items
returns-in_err-brush-clause-items c = draws_items (config_look c.args.config.now c.args.output_kind c.args.terminal)

pub returns-in_err-brush-clause-lines : goal.returns-in_err-brush-clause-lines
returns-in_err-brush-clause-lines c = draws_lines (config_look c.args.config.now c.args.output_kind c.args.terminal)

pub returns-clause-items : goal.returns-clause-items
returns-clause-items c = draws_items (config_look c.args.config.now c.args.output_kind c.args.terminal)

pub returns-clause-lines : goal.returns-clause-lines
returns-clause-lines c = draws_lines (config_look c.args.config.now c.args.output_kind c.args.terminal)
