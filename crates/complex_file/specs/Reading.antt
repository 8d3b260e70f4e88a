-- What a function of the reader gives, where memory does not run out.
use Rattle.std.specs.Prelude.{◌≡◌, Ok, Err, Result}
use Rattle.complex_file.specs.{declared.fault.LineFault.LineFault, declared.fault.JobRefused.JobRefused, declared.kind.InputKind.InputKind, Input.Fault}
use Rattle.complex_file.specs.declared.fault.LineFault.TheVariants as fault
use Rattle.complex_file.specs.declared.fault.JobRefused.TheVariants as refused

abbrev pub Fails : {Y : Type 0} → LineFault → Result Y InputKind → Type 0
Fails fault.Memory wanted = Unit {0}
Fails (fault.Kind kind) wanted = wanted ≡ Err kind

-- of one line
abbrev pub Gives : {X Y : Type 0} → (X → Y) → Result X LineFault → Result Y InputKind → Type 0
Gives view (Ok x) wanted = wanted ≡ Ok (view x)
Gives view (Err e) wanted = Fails e wanted

-- of many lines, where a fault has its line
abbrev pub GivesInput : {X Y : Type 0} → (X → Y) → Result X JobRefused → Result Y Fault → Type 0
GivesInput view (Ok x) wanted = wanted ≡ Ok (view x)
GivesInput view (Err refused.OutOfMemory) wanted = Unit {0}
GivesInput view (Err (refused.InputRefused kind line)) wanted = wanted ≡ Err (record { kind = kind; line = line })
