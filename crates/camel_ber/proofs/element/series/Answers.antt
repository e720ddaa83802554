use Rattle.camel_ber.specs.Elements.{octets_data}
use Rattle.camel_ber.proofs.ListLemmas.{result_found, result_reads, series_one}
use Rattle.camel_ber.proofs.element.series.Goals as goal

pub returns-clause-found : goal.returns-clause-found
returns-clause-found c = result_found c.args.depth (octets_data c.args.octets) c.all_elements.result
    c.all_elements.ensures

pub returns-clause-only : goal.returns-clause-only
returns-clause-only c = result_reads c.args.depth (octets_data c.args.octets) c.all_elements.result
    c.all_elements.ensures

pub returns-clause-one : goal.returns-clause-one
returns-clause-one c = series_one c.args.depth (octets_data c.args.octets).bytes
