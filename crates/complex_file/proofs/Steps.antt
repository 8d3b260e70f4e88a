-- What tests and steps that went well tell.
use Rattle.std.{proofs.Common.{ℕ, ◌≡◌, Bool, true, false, cond, refl, Ok, Err, Result, Some, None, is_none}, specs.declared.option.Option.Option}
use Rattle.complex_file.specs.Names.{BlockFault, InputKind, or_later, unless}

pub record Both (P Q : Type 0) : Type 0 where
  pub first : P
  pub second : Q

pub ok_same : {A E : Type 0} {x y : A} → ◌≡◌ {A = Result A E} (Ok x) (Ok y) → x ≡ y
ok_same h = cc

-- a test that leads to a fault was false
pub passed : {A E : Type 0} (b : Bool) (e : E) (r : Result A E) (x : A) → cond b (Err e) r ≡ Ok x → Both (b ≡ false) (r ≡ Ok x)
passed true e r x h = absurd cc
passed false e r x h = record { first = refl; second = h }

-- a test without which there is a fault was true
pub met : {A E : Type 0} (b : Bool) (e : E) (r : Result A E) (x : A) → cond b r (Err e) ≡ Ok x → Both (b ≡ true) (r ≡ Ok x)
met true e r x h = record { first = refl; second = h }
met false e r x h = absurd cc

pub fault_free : {X : Type 0} (o : Option InputKind) (x y : X) → unless o x ≡ Ok y → Both (o ≡ None) (x ≡ y)
fault_free None x y h = record { first = refl; second = ok_same h }
fault_free (Some k) x y h = absurd cc

pub fault_found : {X : Type 0} (o : Option InputKind) (x : X) (k : InputKind) → unless o x ≡ Err k → o ≡ Some k
fault_found None x k h = absurd cc
fault_found (Some j) x k h = cc

pub none_from : {X : Type 0} (o : Option X) → is_none o ≡ true → o ≡ None
none_from None h = refl
none_from (Some x) h = absurd cc

pub later_fault : (o : Option InputKind) (k : InputKind) (at : ℕ) (later : Option BlockFault) → o ≡ Some k → or_later o at later ≡ Some (record { kind = k; at = at })
later_fault o k at later h = rw h refl

pub later_none : (o : Option InputKind) (at : ℕ) (later : Option BlockFault) → o ≡ None → or_later o at later ≡ later
later_none o at later h = rw h refl
