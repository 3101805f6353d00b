use Rattle.std.proofs.Common.{◌∙◌, sym}
use Rattle.std.proofs.lemmas.Result.{err_from_is_err_and}
use Rattle.pid_file.specs.declared.entry_line.EntryKind.TheVariants.{Vendor, Class}
use Rattle.pid_file.proofs.LineSays.{entry_read, fault_read, block_says, block_fault, unknown_says}
use Rattle.pid_file.proofs.open_levels.read_head.Goals as goal

pub returns-in_err-vendor-in-Devices : goal.returns-in_err-vendor-in-Devices
returns-in_err-vendor-in-Devices c at earlier =
    let p = err_from_is_err_and c.from_residual.result c.from_residual.ensures.1 in
    rw (p.1, p.2) (fault_read Vendor earlier c.args.line.now c.split_mark-mark.result.1.now _ c.requires.text c.requires.active (c.requires.flat, sym c.split_mark-mark.ensures.mark ∙ c.in-Devices.is) c.split_mark-mark.ensures.inside c.in_err-vendor-in-Devices.ensures.fault)

pub returns-in_err-class-in-Classes : goal.returns-in_err-class-in-Classes
returns-in_err-class-in-Classes c at earlier =
    let p = err_from_is_err_and c.from_residual-in_err-class-in-Classes.result c.from_residual-in_err-class-in-Classes.ensures.1 in
    rw (p.1, p.2) (fault_read Class earlier c.args.line.now c.split_mark-mark.result.1.now _ c.requires.text c.requires.active (c.requires.flat, sym c.split_mark-mark.ensures.mark ∙ c.in-Classes.is) c.split_mark-mark.ensures.inside c.in_err-class-in-Classes.ensures.fault)

pub returns-in_ok-vendor-in-Devices : goal.returns-in_ok-vendor-in-Devices
returns-in_ok-vendor-in-Devices c at earlier =
    let e = c.in_ok-vendor-in-Devices.ensures in
    entry_read at Vendor earlier c.args.line.now c.split_mark-mark.result.1.now c.in_ok-vendor-in-Devices.vendor c.requires.text c.requires.active (c.requires.flat, sym c.split_mark-mark.ensures.mark ∙ c.in-Devices.is) c.split_mark-mark.ensures.inside e.path e.name e.good

pub returns-in_ok-class-in-Classes : goal.returns-in_ok-class-in-Classes
returns-in_ok-class-in-Classes c at earlier =
    let e = c.in_ok-class-in-Classes.ensures in
    entry_read at Class earlier c.args.line.now c.split_mark-mark.result.1.now c.in_ok-class-in-Classes.class c.requires.text c.requires.active (c.requires.flat, sym c.split_mark-mark.ensures.mark ∙ c.in-Classes.is) c.split_mark-mark.ensures.inside e.path e.name e.good

pub returns-in-Some : goal.returns-in-Some
returns-in-Some c at earlier =
    block_says at earlier c.args.line.now c.split_mark-mark.result.1.now c.in-Some.vendor c.requires.text c.requires.active c.requires.flat (sym c.split_mark-mark.ensures.mark ∙ c.in-Generics.is) c.split_mark-mark.ensures.inside c.in-Some.ensures.0 c.in-Some.ensures.1

pub returns-in-None : goal.returns-in-None
returns-in-None c at earlier =
    block_fault earlier c.args.line.now c.split_mark-mark.result.1.now c.requires.text c.requires.active c.requires.flat (sym c.split_mark-mark.ensures.mark ∙ c.in-Generics.is) c.split_mark-mark.ensures.inside c.in-None.ensures

pub returns-in-Unknown : goal.returns-in-Unknown
returns-in-Unknown c at earlier = unknown_says at earlier c.args.line.now c.requires.text c.requires.active c.requires.flat (sym c.split_mark-mark.ensures.mark ∙ c.in-Unknown.is)
