use Rattle.std.proofs.Common.{rules}
use Rattle.pid_tree.proofs.Childless.{vendor_decided, device_decided, class_decided, subclass_decided}
use Rattle.pid_tree.proofs.children.has_child.Goals as goal

pub returns-else-has_device-clause-answer : goal.returns-else-has_device-clause-answer
returns-else-has_device-clause-answer c = rw c.in-Vendor.is (c.has_generic.ensures.found, vendor_decided c.args.tree.now c.in-Vendor.vendor _ (search rules) (c.has_device.ensures.none c.if-has_device.false) c.has_generic.ensures.none)

pub returns-in-Device-clause-answer : goal.returns-in-Device-clause-answer
returns-in-Device-clause-answer c = rw c.in-Device.is (c.has_subsystem.ensures.found, device_decided c.args.tree.now _ _ _ (search rules) (search rules) c.has_subsystem.ensures.none)

pub returns-in-Class-clause-answer : goal.returns-in-Class-clause-answer
returns-in-Class-clause-answer c = rw c.in-Class.is (c.has_subclass.ensures.found, class_decided c.args.tree.now _ _ (search rules) c.has_subclass.ensures.none)

pub returns-in-Subclass-clause-answer : goal.returns-in-Subclass-clause-answer
returns-in-Subclass-clause-answer c = rw c.in-Subclass.is (c.has_progif.ensures.found, subclass_decided c.args.tree.now _ _ _ (search rules) (search rules) c.has_progif.ensures.none)
