-- The ceremonies of the code as those of the definitions, and the answers of its calls.
use Rattle.std.specs.Prelude.{◌≡◌, Ok, Err, Result}
use Rattle.protocol.specs.declared.fault.Fault.{Fault}
use Rattle.protocol.specs.Ceremony as ceremony
use Rattle.protocol.specs.Header.{header_bytes}
use Rattle.protocol.specs.Of.{parameters}
use Rattle.digest.specs.Short.{short_bytes}
use Rattle.ceremony.specs.declared.stages.Committed.{Committed}
use Rattle.ceremony.specs.declared.stages.Keyed.{Keyed}
use Rattle.ceremony.specs.declared.stages.Returned.{Returned}

abbrev pub committed_of : Committed → ceremony.Committed
committed_of c = record {
  header = header_bytes (parameters c.header);
  salt = short_bytes c.salt;
  master = c.master;
  d1 = short_bytes c.d1;
}

abbrev pub keyed_of : Keyed → ceremony.Keyed
keyed_of k = record {
  header = header_bytes (parameters k.header);
  salt = short_bytes k.salt;
  master = k.master;
  d1 = short_bytes k.d1;
  seed_a = k.seed_a;
  d2 = short_bytes k.d2;
}

-- what commit answered
abbrev pub committed_as : Result Committed Fault → Result ceremony.Committed Fault
committed_as (Ok c) = Ok (committed_of c)
committed_as (Err f) = Err f

-- what a step answered, without the ceremony that a refusal gives back
abbrev pub answered : {C X Y : Type 0} → (X → Y) → Result X (Returned C) → Result Y Fault
answered of (Ok x) = Ok (of x)
answered of (Err r) = Err r.fault

-- a refused step gives the ceremony back as it was
abbrev pub GivesBack : {C X : Type 0} → C → Result X (Returned C) → Type 0
GivesBack c (Ok x) = Unit {0}
GivesBack c (Err r) = r.ceremony ≡ c
