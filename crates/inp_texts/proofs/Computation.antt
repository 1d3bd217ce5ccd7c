-- One name to unfold where a proof computes with words.
use Rattle.inp_codes.proofs.Computation.{event_codes}
use Rattle.inp_texts.specs.Number.{numeral, number, signed_number}
use Rattle.inp_texts.specs.Code.{kind_word, code_word}

-- `unfolding words_computing` opens what reads words, and the tables of types and codes
unfoldable pub words_computing : Type 0
unfolding event_codes numeral number signed_number kind_word code_word
words_computing = Unit {0}
