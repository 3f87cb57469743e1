-- The fault that `show` returns, by where it came from.
use Rattle.std.proofs.Common.{◌≡◌, ℕ, List, [], Option, IsTrue, true≢false, length, take, codes, refl, sym, subst, inr, arith}
use Rattle.std.specs.Io.KnownBytes.{Appends, Keeps}
use Rattle.std.proofs.KnownBytes.{Appends-kept, Appends-nil}
use Rattle.units.specs.declared.code.Node.{Node}
use Rattle.wire.specs.declared.input.Input.{Input}
use Rattle.stores.specs.Faults.{is_device_fault}
use Rattle.stores.specs.Records.{Places, AreRecords}
use Rattle.stores.specs.declared.fault.StoreFault.{StoreFault}
use Rattle.command_faults.specs.declared.fault.OpFault.{OpFault}
use Rattle.command_faults.specs.declared.fault.OpFault.TheVariants as op_fault
use Rattle.report.specs.declared.form.Form.{Form}
use Rattle.show.specs.Pages.{IsBegun, IsWithin, FailsToWrite, FailsWithin}
use Rattle.show.specs.Show.{record_lines, FailsToShow}
use Rattle.report.specs.ReportLines.{end_line}
use Rattle.show.proofs.ShownPages.{cut-off, end-cut, end-some}

-- a page was not written, or only in part
pub fails-writing : (form : Form) (e : OpFault) (node : Node) (records written : ℕ) (honest : Type 0) (places : Places) (text : List ℕ) (v x w : Option (List ℕ)) → FailsWithin e written text x w
    → ((count : ℕ) → IsWithin count written text x w → IsBegun form count honest places v w) → (Keeps x w → IsBegun form written honest places v w) → FailsToWrite form e node records honest places v w
fails-writing form (op_fault.Write count) node records written honest places text v x w f more here = more count f
fails-writing form op_fault.NoMemory node records written honest places text v x w f more here = (written, here f)
fails-writing form (op_fault.Store told fault) node records written honest places text v x w f more here = absurd f
fails-writing form (op_fault.Input line cause) node records written honest places text v x w f more here = f
fails-writing form op_fault.Read node records written honest places text v x w f more here = f
fails-writing form (op_fault.Stuck at place) node records written honest places text v x w f more here = f
fails-writing form (op_fault.Unsettled at) node records written honest places text v x w f more here = f
fails-writing form (op_fault.Setup told) node records written honest places text v x w f more here = f
fails-writing form (op_fault.Undone line) node records written honest places text v x w f more here = f

-- a fault of the second reading, where the first one found a record at each place
again : (form : Form) (count : ℕ) (honest : Type 0) (mid places : Places) (v w : Option (List ℕ)) → (honest → mid ≡ places) → IsBegun form count honest mid v w → IsBegun form count honest places v w
again form count honest mid places v w same b =
    record { inputs = b.inputs; are = λ h. subst (λ ps. AreRecords (take (length b.inputs) ps) b.inputs) (same h) (b.are h); within = b.within; written = b.written }

pub fails-second : (form : Form) (e : OpFault) (node : Node) (records : ℕ) (honest : Type 0) (mid places : Places) (v w : Option (List ℕ)) (all : List Input) → FailsToWrite form e node records honest mid v w
    → (honest → mid ≡ places) → (honest → AreRecords places all) → length all ≡ records → FailsToShow form e node honest places v w
fails-second form (op_fault.Store told fault) node records honest mid places v w all f same are many =
    let device : honest → IsTrue (is_device_fault fault) = λ h. f.0.device h all (subst (λ ps. AreRecords ps all) (sym (same h)) (are h)) (omega arith) in (
      record { whose = f.0.whose; named = f.0.named; damaged = λ h p e. absurd (true≢false (sym (subst (λ x. IsTrue (is_device_fault x)) e (device h)))) },
      inr (device, (f.1.0, cut-off form f.1.0 honest places v w all (again form f.1.0 honest mid places v w same f.1.1) are)),
    )
fails-second form op_fault.NoMemory node records honest mid places v w all f same are many = inr (f.0, cut-off form f.0 honest places v w all (again form f.0 honest mid places v w same f.1) are)
fails-second form (op_fault.Write count) node records honest mid places v w all f same are many = cut-off form count honest places v w all (again form count honest mid places v w same f) are
fails-second form (op_fault.Input line cause) node records honest mid places v w all f same are many = f
fails-second form op_fault.Read node records honest mid places v w all f same are many = f
fails-second form (op_fault.Stuck at place) node records honest mid places v w all f same are many = f
fails-second form (op_fault.Unsettled at) node records honest mid places v w all f same are many = f
fails-second form (op_fault.Setup told) node records honest mid places v w all f same are many = f
fails-second form (op_fault.Undone line) node records honest mid places v w all f same are many = f

-- the last line was not written, or only in part
pub fails-last : (form : Form) (e : OpFault) (node : Node) (written : ℕ) (honest : Type 0) (places : Places) (v x w : Option (List ℕ)) (all : List Input) → FailsWithin e written (end_line form) x w
    → (honest → AreRecords places all) → written ≡ length (record_lines form 0 all) → Appends v x (record_lines form 0 all) → FailsToShow form e node honest places v w
fails-last form (op_fault.Write count) node written honest places v x w all f are size lines = end-cut form count written honest places v x w all are size lines f
fails-last form op_fault.NoMemory node written honest places v x w all f are size lines =
    let none : IsWithin written written (end_line form) x w = record { more = 0; sum = omega arith; fewer = omega (arith, end-some form); appended = Appends-kept x x w [] (Appends-nil x) f } in
    inr (written, end-cut form written written honest places v x w all are size lines none)
fails-last form (op_fault.Store told fault) node written honest places v x w all f are size lines = absurd f
fails-last form (op_fault.Input line cause) node written honest places v x w all f are size lines = f
fails-last form op_fault.Read node written honest places v x w all f are size lines = f
fails-last form (op_fault.Stuck at place) node written honest places v x w all f are size lines = f
fails-last form (op_fault.Unsettled at) node written honest places v x w all f are size lines = f
fails-last form (op_fault.Setup told) node written honest places v x w all f are size lines = f
fails-last form (op_fault.Undone line) node written honest places v x w all f are size lines = f

pub none-told : (e : OpFault) (node : Node) (fault f : StoreFault) (written : ℕ) (text : List ℕ) (x w : Option (List ℕ)) → FailsWithin e written text x w → e ≡ op_fault.Store node f → f ≡ fault
none-told e node fault f written text x w fails same = absurd (subst (λ t. FailsWithin t written text x w) same fails)
