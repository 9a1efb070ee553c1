-- A job: the lengths of the two texts as file numbers, the circuit file, the assumption and the property.
use Rattle.std.specs.Prelude.{◌≡◌, ℕ, ◌+◌, ◌*◌, ◌==◌, nat_lt, cond, List, ◌++◌, length, take, drop}
use Rattle.std.specs.Prelude.{Ok, Err, Result}
use Rattle.circuit.specs.Files.{number_at, number_bytes, count}
use Rattle.description.specs.declared.source.Source.{Source}
use Rattle.job.specs.declared.fault.Fault.{Fault}
use Rattle.job.specs.declared.fault.Fault.TheVariants.{Length}

pub record Parts : Type 0 where
  pub circuit : List ℕ
  pub assumption : List ℕ
  pub property : List ℕ

-- the bytes of a job with these parts: the length of each text, and then the parts
abbrev pub bytes_of : Parts → List ℕ
bytes_of p =
    number_bytes (length p.assumption)
    ++ (number_bytes (length p.property)
    ++ (p.circuit
    ++ (p.assumption
    ++ p.property)))

-- the bytes are a job with these parts, where the circuit file is as long as its own count of gates says
pub record Framed (bs : List ℕ) (p : Parts) : Type 0 where
  pub bytes : bs ≡ bytes_of p
  pub circuit : length p.circuit ≡ 6 + 4 * count p.circuit

-- the length of the circuit file, whose third number counts the gates
abbrev pub circuit_length : List ℕ → ℕ
circuit_length bs = 6 + 4 * number_at bs 4

abbrev pub assumption_length : List ℕ → ℕ
assumption_length bs = number_at bs 0

abbrev pub property_length : List ℕ → ℕ
property_length bs = number_at bs 1

abbrev pub total : List ℕ → ℕ
total bs = 4 + circuit_length bs + assumption_length bs + property_length bs

abbrev pub frame : List ℕ → Result Parts Fault
frame bs =
    cond (nat_lt (length bs) 10) (Err (Length (length bs)))
    (cond (length bs == total bs)
    (Ok (record {
      circuit = take (circuit_length bs) (drop 4 bs);
      assumption = take (assumption_length bs) (drop (4 + circuit_length bs) bs);
      property = drop (4 + circuit_length bs + assumption_length bs) bs;
    }))
    (Err (Length (length bs))))

abbrev pub framed : Result Source Fault → Result Parts Fault
framed (Ok s) = Ok (record { circuit = s.circuit.now; assumption = s.assumption.now; property = s.property.now })
framed (Err e) = Err e
