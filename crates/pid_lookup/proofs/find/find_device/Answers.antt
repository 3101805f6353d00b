use Rattle.pid_lookup.proofs.find.find_device.Goals as goal

pub returns : goal.returns
returns g c =
    let e = c.name_of.ensures in
    record {
      asks = record { found = e.found; fault = e.fault; caused = e.caused; kept = e.kept };
      allowed = e.told;
    }
