use Rattle.std.specs.Prelude.{ℕ}
use Rattle.sequence_words.specs.declared.check.Check.{Check}
use Rattle.sequence_words.specs.declared.check.Check.TheVariants.{K1, K2, K3, K4, K5, K6, K7, K8, K9, K10, K11, K12, K13}
use Rattle.index_file.specs.declared.fault.OpenFault.{OpenFault}
use Rattle.pefidx_c.specs.declared.checking.Fault.{Fault}

-- the number of a check
abbrev pub check_number : Check → ℕ
check_number K1 = 1
check_number K2 = 2
check_number K3 = 3
check_number K4 = 4
check_number K5 = 5
check_number K6 = 6
check_number K7 = 7
check_number K8 = 8
check_number K9 = 9
check_number K10 = 10
check_number K11 = 11
check_number K12 = 12
check_number K13 = 13

-- a broken check as it is told
abbrev pub fault_of : OpenFault → Fault
fault_of broken = record {
  check = check_number broken.check;
  term = broken.term;
  part = broken.part;
}
