-- A list of findings in which nothing was noted (docs/RULES.md, "Findings").
use Rattle.std.specs.Prelude.{List, [], replicate}
use Rattle.finding.specs.declared.Finding.{Finding}
use Rattle.finding.specs.Findings.{finding_from}

-- a list of 512 empty records
abbrev pub no_findings : List Finding
no_findings = replicate 512 (finding_from [])
