use Rattle.places.proofs.places_fit.Goals as goal

pub returns-then-alone : goal.returns-then-alone
returns-then-alone c =
    let h = c.if-alone.true in (
      λ i. record {
        segments = c.segments_fit-segments.ensures.0 h.0;
        maps = c.maps_fit-maps.ensures.0 h.1;
        rules = c.rules_fit-rules.ensures.0 h.2;
        separators_alone = c.separators_alone-alone.ensures.0 h.3;
        codes = c.codes_clear-codes.ensures.0 i;
      },
      λ i f. c.codes_clear-codes.ensures.1 i f.codes,
    )
