mod CostRows
