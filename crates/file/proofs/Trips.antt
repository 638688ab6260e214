-- The theorems of the file in one, as the contract of `longest_file` cites them.
use Rattle.rules.specs.District.{fresh_district}
use Rattle.rules.specs.File.{longest_file}
use Rattle.grammar.proofs.Fresh.{fresh_in_range}
use Rattle.file.specs.Trips.{Trips}
use Rattle.file.proofs.Back.{decode_encode_as, decode_encode}
use Rattle.file.proofs.Forth.{encode_decode_as, encode_decode}
use Rattle.file.proofs.Longest.{longest_as, full, full_in_range, full_long}

pub trips : Trips longest_file
trips =
    record {
      back_as = decode_encode_as;
      forth_as = encode_decode_as;
      back = decode_encode;
      forth = encode_decode;
      fresh = decode_encode fresh_district fresh_in_range;
      longest = longest_as;
      some = (full, full_in_range, full_long);
    }
