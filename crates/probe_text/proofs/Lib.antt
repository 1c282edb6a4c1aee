mod Measures
