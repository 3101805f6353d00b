use Rattle.pid_file.specs.declared.path.Path.TheVariants as paths
use Rattle.pid_lookup.specs.declared.flags.Request.TheVariants as requests
use Rattle.pid_lookup.specs.Found.{subsystem_name}
use Rattle.pid_lookup.proofs.FoundTexts.{for_vendor, for_device, for_subvendor, for_subsystem}
use Rattle.pid_lookup.proofs.Questions.{one_asks, one_told}
use Rattle.pid_lookup.proofs.find.find.Goals as goal

pub returns-in-Vendor : goal.returns-in-Vendor
returns-in-Vendor g c = record {
  asks =
      one_asks g.N.Names _ _ c.name_of.result c.one.result c.args.request requests.Vendor c.args.args.now (λ named. named (paths.Vendor c.args.args.now.vendor)) c.one.ensures c.in-Vendor.is
      (record { found = c.name_of.ensures.found; fault = c.name_of.ensures.fault; caused = c.name_of.ensures.caused; kept = c.name_of.ensures.kept })
      (λ named name is. for_vendor named c.args.args.now name is);
  allowed = one_told c.name_of.result c.one.result _ c.one.ensures c.name_of.ensures.told;
}

pub returns-in-Device : goal.returns-in-Device
returns-in-Device g c = record {
  asks =
      one_asks g.N.Names _ _ c.find_device.result c.one-in-Device.result c.args.request requests.Device c.args.args.now (λ named. named (paths.Device c.args.args.now.vendor c.args.args.now.device)) c.one-in-Device.ensures c.in-Device.is
      c.find_device.ensures.asks
      (λ named name is. for_device named c.args.args.now name is);
  allowed = one_told c.find_device.result c.one-in-Device.result _ c.one-in-Device.ensures c.find_device.ensures.allowed;
}

pub returns-in-Subvendor : goal.returns-in-Subvendor
returns-in-Subvendor g c = record {
  asks =
      one_asks g.N.Names _ _ c.name_of-in-Subvendor.result c.one-in-Subvendor.result c.args.request requests.Subvendor c.args.args.now (λ named. named (paths.Vendor c.args.args.now.subvendor)) c.one-in-Subvendor.ensures c.in-Subvendor.is
      (record { found = c.name_of-in-Subvendor.ensures.found; fault = c.name_of-in-Subvendor.ensures.fault; caused = c.name_of-in-Subvendor.ensures.caused; kept = c.name_of-in-Subvendor.ensures.kept })
      (λ named name is. for_subvendor named c.args.args.now name is);
  allowed = one_told c.name_of-in-Subvendor.result c.one-in-Subvendor.result _ c.one-in-Subvendor.ensures c.name_of-in-Subvendor.ensures.told;
}

pub returns-in-Subsystem : goal.returns-in-Subsystem
returns-in-Subsystem g c = record {
  asks =
      one_asks g.N.Names _ _ c.find_subsystem.result c.one-in-Subsystem.result c.args.request requests.Subsystem c.args.args.now (λ named. subsystem_name named c.args.args.now) c.one-in-Subsystem.ensures c.in-Subsystem.is
      c.find_subsystem.ensures.asks
      (λ named name is. for_subsystem named c.args.args.now name is);
  allowed = one_told c.find_subsystem.result c.one-in-Subsystem.result _ c.one-in-Subsystem.ensures c.find_subsystem.ensures.allowed;
}
