use Rattle.format.proofs.Sample.{listing_encodes, listing_decodes, listing_passes, passes, refuses_1, refuses_2, refuses_3, refuses_4, refuses_5}
use Rattle.format.proofs.laws.sample_jobs.Goals as goal

pub returns : goal.returns
returns c = record {
  encodes = listing_encodes;
  decodes = listing_decodes;
  passes = listing_passes;
  limits_pass = passes;
  answer_1 = refuses_1;
  answer_2 = refuses_2;
  answer_3 = refuses_3;
  answer_4 = refuses_4;
  answer_5 = refuses_5;
}
