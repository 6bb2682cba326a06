use Rattle.std.proofs.Common.{map, string_bytes}
use Rattle.ptree_cli.specs.Command.{parse_request}
use Rattle.ptree_cli.proofs.Ended.{refused_run, other_run, flushed_run}
use Rattle.ptree_cli.proofs.run.run_begun.Goals as goal

pub returns-in-Err : goal.returns-in-Err
returns-in-Err g c =
    refused_run c.args.sources.now (parse_request (map string_bytes c.args.words.now)) c.report.result g.R.Feed.remaining g.R.Feed.faults g.W.Sink.contents g.W.Sink.faults
    c.args.input.now c.args.out c.in-Err.refused.value (record { bytes = g.E.Sink.contents; faults = g.E.Sink.faults; old = c.args.err.now; new = c.report.new.err }) c.refused_ending.result
    c.in-Err.ensures.refused c.refused_ending.ensures c.report.ensures.status c.report.ensures.reported c.report.ensures.silent

pub returns-then-status-ne0 : goal.returns-then-status-ne0
returns-then-status-ne0 g c =
    other_run g.W.Sink.contents g.W.Sink.faults (λ o. o.buffered) c.args.sources.now (parse_request (map string_bytes c.args.words.now)) c.run-status.result
    (record { bytes = g.R.Feed.remaining; faults = g.R.Feed.faults; old = c.args.input.now; new = c.run-status.new.input }) c.in-Ok.out c.run-status.new.out
    (record { bytes = g.E.Sink.contents; faults = g.E.Sink.faults; old = c.args.err.now; new = c.run-status.new.err }) g.B.Begun.begun g.B.Begun.failed c.args.out c.into_inner.result
    c.requires.begun c.requires.failed c.in-Ok.ensures.inner c.in-Ok.ensures.held c.in-Ok.ensures.faults c.run-status.ensures (λ e. c.if-status-ne0.true e)
    c.into_inner.ensures.inner c.into_inner.ensures.grown c.into_inner.ensures.faults

pub returns : goal.returns
returns g c =
    flushed_run g.W.Sink.contents g.W.Sink.faults (λ o. o.buffered) c.args.sources.now (parse_request (map string_bytes c.args.words.now)) c.run-status.result c.report-status.result
    (record { bytes = g.R.Feed.remaining; faults = g.R.Feed.faults; old = c.args.input.now; new = c.run-status.new.input }) c.in-Ok.out c.run-status.new.out c.flush-flushed.new.self
    g.E.Sink.contents g.E.Sink.faults c.args.err.now c.run-status.new.err c.report-status.new.err g.B.Begun.begun g.B.Begun.failed c.args.out c.into_inner-2.result c.flush-flushed.result c.of_drawing.result
    c.requires.begun c.requires.failed c.in-Ok.ensures.inner c.in-Ok.ensures.held c.in-Ok.ensures.faults c.run-status.ensures c.if-status-ne0.false
    c.flush-flushed.ensures.bytes c.flush-flushed.ensures.done c.flush-flushed.ensures.cause c.flush-flushed.ensures.memory c.of_drawing.ensures
    c.report-status.ensures.status c.report-status.ensures.reported c.report-status.ensures.silent
    c.into_inner-2.ensures.inner c.into_inner-2.ensures.grown c.into_inner-2.ensures.faults
