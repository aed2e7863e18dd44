use Rattle.host_process.proofs.on_host.run_process.Goals as goal

pub returns : goal.returns
returns g c = record {
  old_devices = record { depot = c.new.result; input = c.new-2.result; out = c.new-3.result };
  new_devices = c.process.new.on;
  old_err = c.new-err.result;
  new_err = c.process.new.err;
  streams = (c.new-2.ensures.unread, c.new-3.ensures.unwritten, c.new-err.ensures.unwritten);
  fresh = record {
    depot = c.new.ensures;
    input = c.new-2.ensures.none_failed;
    out = c.new-3.ensures.none_failed;
    err = c.new-err.ensures.none_failed;
  };
  words = c.process.ensures.1;
  taken = c.process.ensures.3;
  status = c.process.ensures.0;
  number = c.process.ensures.2;
  processed = c.process.ensures.4;
}
