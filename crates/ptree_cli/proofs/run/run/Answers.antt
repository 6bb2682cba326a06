use Rattle.ptree_cli.proofs.run.run.Goals as goal

pub returns : goal.returns
returns g c =
    record {
      end = c.perform-end.result;
      status = c.report.ensures.status;
      ends = c.perform-end.ensures.ends;
      cause = c.perform-end.ensures.cause;
      read = c.perform-end.ensures.read;
      reported = c.report.ensures.reported;
      silent = c.report.ensures.silent;
      input = c.perform-end.ensures.input;
      unread = c.perform-end.ensures.unread;
    }
