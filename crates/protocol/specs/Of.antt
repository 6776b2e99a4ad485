-- A header as code holds it, by the numbers that it fixes.
use Rattle.std.specs.Prelude.{Ok, Err, Result}
use Rattle.protocol.specs.declared.fault.Fault.{Fault}
use Rattle.protocol.specs.declared.header.Header.{Header}
use Rattle.protocol.specs.Parameters.{Parameters}
use Rattle.protocol.specs.Sets.{number}

abbrev pub parameters : Header → Parameters
parameters x = record {
  version = x.version;
  set = number x.set;
  n = x.n;
  c = x.c;
  m = x.m;
  h = x.h;
  tau = x.tau;
  a = x.a;
}

-- an answer that has a header, by the numbers that it fixes
abbrev pub read_as : Result Header Fault → Result Parameters Fault
read_as (Ok x) = Ok (parameters x)
read_as (Err f) = Err f
