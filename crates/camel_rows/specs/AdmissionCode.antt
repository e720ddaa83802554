-- How a proof tells the values of `AdmissionData` apart.
use Rattle.std.specs.Prelude.{ℕ, refl}
use Rattle.std.specs.Coded.{Coded, code_by, coded_list, coded_ℕ, coded×}
use Rattle.std.specs.FinMap as map
use Rattle.camel_rows.specs.Store.{AdmissionData, DirectoryData}
use Rattle.camel_rows.specs.contracts.subscriber.csis_present.CsisPresent as csis

-- they are told apart as the tuple of their parts
abbrev pub admission_code : Coded AdmissionData
admission_code =
    code_by (ℕ × (ℕ × DirectoryData)) (coded× coded_ℕ (coded× coded_ℕ (map.code (coded_list coded_ℕ) csis.the_row.coded)))
    (λ admission. (admission.limit, (admission.accepted, admission.directory)))
    (λ parts. record { limit = parts.0; accepted = parts.1.0; directory = parts.1.1 })
    (λ _. refl)
